use Rattle.std.proofs.Common.{◌≡◌, take}
use Rattle.shader_overloads.proofs.rule.copy_arguments.Given as goal

-- the arguments so far
abbrev pub invariant-loop-argument : goal.invariant-loop-argument
invariant-loop-argument l = l.copies.items ≡ take l.argument-index l.arguments
