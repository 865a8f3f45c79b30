use Rattle.std.proofs.Common.{◌≡◌, map, take}
use Rattle.shader_ir.specs.declared.proc.type_resolution.TypeResolution.TheVariants.{Value}
use Rattle.shader_overloads.proofs.utils.values.Given as goal

-- the types so far
abbrev pub invariant-loop-inner : goal.invariant-loop-inner
invariant-loop-inner l = l.arguments.items ≡ map Value (take l.inner-index l.inners)
