-- Sets of scalars as lists in the order of the named scalars.
use Rattle.std.specs.Prelude.{Bool, not, List}
use Rattle.std.specs.List.{list_any}
use Rattle.shader_ir.specs.declared.scalar.Scalar.{Scalar}
use Rattle.shader_ir.specs.Scalars.{is_abstract_scalar, named_scalars, same_scalar}
use Rattle.shader_overloads.specs.declared.scalar_set.ScalarSet.{ScalarSet}
use Rattle.shader_overloads.specs.Bits.{has_bit, items_where}

-- the scalars of a set
abbrev pub scalars_in : ScalarSet → List Scalar
scalars_in set = items_where (has_bit set.0) named_scalars

-- whether a set contains a scalar
abbrev pub has_scalar : ScalarSet → Scalar → Bool
has_scalar set scalar = list_any (same_scalar scalar) (scalars_in set)

abbrev pub is_concrete_scalar : Scalar → Bool
is_concrete_scalar scalar = not (is_abstract_scalar scalar)
