use Rattle.std.proofs.Common.{◌≡◌, take}
use Rattle.shader_overloads.specs.Counts.{arguments_at}
use Rattle.shader_overloads.proofs.overload_set.copy_arguments_at.Given as goal

-- the arguments of the rules so far
abbrev pub invariant-loop-rule : goal.invariant-loop-rule
invariant-loop-rule l = l.arguments.items ≡ arguments_at l.i (take l.rule-index l.rules)
