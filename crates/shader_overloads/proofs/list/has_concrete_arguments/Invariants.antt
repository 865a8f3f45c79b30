use Rattle.std.proofs.Common.{◌≡◌, take, true}
use Rattle.std.specs.List.{list_all}
use Rattle.shader_ir.specs.Key.{inner_of}
use Rattle.shader_overloads.specs.Remaining.{is_concrete}
use Rattle.shader_overloads.proofs.list.has_concrete_arguments.Given as goal

-- no argument so far is abstract
abbrev pub invariant-loop-argument : goal.invariant-loop-argument
invariant-loop-argument l = list_all (λ argument. is_concrete l.types (inner_of l.types argument))
    (take l.argument-index l.rule.arguments) ≡ true
