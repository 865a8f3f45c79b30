-- Type constructors and sets of them.
use Rattle.std.specs.Prelude.{Bool, true, false, ◌&&◌, List, [], ◌∷◌}
use Rattle.std.specs.List.{list_any}
use Rattle.shader_ir.specs.declared.scalar.Scalar.{Scalar}
use Rattle.shader_ir.specs.declared.scalar.VectorSize.TheVariants.{Bi, Tri, Quad}
use Rattle.shader_ir.specs.declared.types.TypeInner.{TypeInner}
use Rattle.shader_ir.specs.declared.types.TypeInner.TheVariants as types
use Rattle.shader_ir.specs.Conversion.{same_size}
use Rattle.shader_overloads.specs.declared.constructor_set.ConstructorSize.{ConstructorSize}
use Rattle.shader_overloads.specs.declared.constructor_set.ConstructorSize.TheVariants as sizes
use Rattle.shader_overloads.specs.declared.constructor_set.ConstructorSet.{ConstructorSet}
use Rattle.shader_overloads.specs.Bits.{has_bit, items_where}

abbrev pub same_constructor : ConstructorSize → ConstructorSize → Bool
same_constructor sizes.Scalar sizes.Scalar = true
same_constructor (sizes.Vector m) (sizes.Vector n) = same_size m n
same_constructor (sizes.Matrix columns rows) (sizes.Matrix m n) = same_size columns m && same_size rows n
same_constructor _ _ = false

-- the thirteen constructors: the scalar, the vectors, and the matrices by columns and then by rows
unfoldable pub all_constructors : List ConstructorSize
all_constructors =
    sizes.Scalar ∷ sizes.Vector Bi ∷ sizes.Vector Tri ∷ sizes.Vector Quad
    ∷ sizes.Matrix Bi Bi ∷ sizes.Matrix Bi Tri ∷ sizes.Matrix Bi Quad
    ∷ sizes.Matrix Tri Bi ∷ sizes.Matrix Tri Tri ∷ sizes.Matrix Tri Quad
    ∷ sizes.Matrix Quad Bi ∷ sizes.Matrix Quad Tri ∷ sizes.Matrix Quad Quad ∷ []

-- whether a type is built by a constructor
abbrev pub is_built_by : TypeInner → ConstructorSize → Bool
is_built_by (types.Scalar s) sizes.Scalar = true
is_built_by (types.Vector m s) (sizes.Vector n) = same_size m n
is_built_by (types.Matrix columns rows s) (sizes.Matrix m n) = same_size columns m && same_size rows n
is_built_by _ _ = false

-- the type that a constructor builds from a scalar
abbrev pub to_inner : ConstructorSize → Scalar → TypeInner
to_inner sizes.Scalar s = types.Scalar s
to_inner (sizes.Vector size) s = types.Vector size s
to_inner (sizes.Matrix columns rows) s = types.Matrix columns rows s

-- the constructors of a set
abbrev pub constructors_in : ConstructorSet → List ConstructorSize
constructors_in set = items_where (has_bit set.0) all_constructors

-- whether a set has a constructor
abbrev pub has_constructor : ConstructorSet → ConstructorSize → Bool
has_constructor set size = list_any (same_constructor size) (constructors_in set)
