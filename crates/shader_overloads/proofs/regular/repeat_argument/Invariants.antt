use Rattle.std.proofs.Common.{◌≡◌, replicate}
use Rattle.shader_ir.specs.declared.proc.type_resolution.TypeResolution.TheVariants.{Value}
use Rattle.shader_overloads.specs.Constructors.{to_inner}
use Rattle.shader_overloads.proofs.regular.repeat_argument.Given as goal

-- the arguments so far
abbrev pub invariant-loop-count : goal.invariant-loop-count
invariant-loop-count l = l.arguments.items ≡ replicate l._count (Value (to_inner l.size l.scalar))
