-- The named scalars, abstract scalars, and conversions between scalars.
use Rattle.std.specs.Prelude.{ℕ, ◌==◌, Bool, true, false, ◌&&◌, List, [], ◌∷◌, ◌++◌, map, codes}
use Rattle.std.specs.List.{list_any}
use Rattle.shader_ir.specs.declared.scalar.ScalarKind.{ScalarKind}
use Rattle.shader_ir.specs.declared.scalar.ScalarKind.TheVariants as kinds
use Rattle.shader_ir.specs.declared.scalar.Scalar.{Scalar}
use Rattle.shader_ir.specs.declared.scalar.VectorSize.{VectorSize}
use Rattle.shader_ir.specs.declared.scalar.VectorSize.TheVariants.{Bi, Tri, Quad}

abbrev pub same_kind : ScalarKind → ScalarKind → Bool
same_kind kinds.Sint kinds.Sint = true
same_kind kinds.Uint kinds.Uint = true
same_kind kinds.Float kinds.Float = true
same_kind kinds.Bool kinds.Bool = true
same_kind kinds.AbstractInt kinds.AbstractInt = true
same_kind kinds.AbstractFloat kinds.AbstractFloat = true
same_kind _ _ = false

abbrev pub same_scalar : Scalar → Scalar → Bool
same_scalar a b = same_kind a.kind b.kind && (a.width == b.width)

-- the scalar of a kind and a width in bytes
abbrev pub scalar : ScalarKind → ℕ → Scalar
scalar kind width = record { kind = kind; width = width }

-- every kind but Bool is numeric
abbrev pub is_numeric : ScalarKind → Bool
is_numeric kinds.Bool = false
is_numeric _ = true

-- the kind is that of literals without a concrete type
abbrev pub is_abstract_kind : ScalarKind → Bool
is_abstract_kind kinds.AbstractInt = true
is_abstract_kind kinds.AbstractFloat = true
is_abstract_kind _ = false

abbrev pub is_abstract_scalar : Scalar → Bool
is_abstract_scalar scalar = is_abstract_kind scalar.kind

abbrev pub abstract_int : Scalar
abstract_int = scalar kinds.AbstractInt 8

abbrev pub abstract_float : Scalar
abstract_float = scalar kinds.AbstractFloat 8

abbrev pub integers : List Scalar
integers =
    scalar kinds.Sint 4 ∷ scalar kinds.Sint 2 ∷ scalar kinds.Sint 8
    ∷ scalar kinds.Uint 4 ∷ scalar kinds.Uint 2 ∷ scalar kinds.Uint 8 ∷ []

abbrev pub floats : List Scalar
floats = scalar kinds.Float 4 ∷ scalar kinds.Float 2 ∷ scalar kinds.Float 8 ∷ []

-- the twelve named scalars
unfoldable pub named_scalars : List Scalar
named_scalars = abstract_int ∷ abstract_float ∷ (integers ++ floats ++ scalar kinds.Bool 1 ∷ [])

-- the integers that a program may name, in the order in which an overload tries them
abbrev pub concrete_ints : List Scalar
concrete_ints =
    scalar kinds.Sint 4 ∷ scalar kinds.Uint 4 ∷ scalar kinds.Sint 2
    ∷ scalar kinds.Uint 2 ∷ scalar kinds.Sint 8 ∷ scalar kinds.Uint 8 ∷ []

abbrev pub all_vector_sizes : List VectorSize
all_vector_sizes = Bi ∷ Tri ∷ Quad ∷ []

-- the text of a vector's size
abbrev pub size_text : VectorSize → List ℕ
size_text Bi = codes "2"
size_text Tri = codes "3"
size_text Quad = codes "4"

-- all pairs of which the first converts to the second: each scalar with itself, and each abstract one with its concrete goals
abbrev pub conversions : List (Scalar × Scalar)
conversions =
    map (λ s. (s, s)) named_scalars
    ++ map (λ s. (abstract_float, s)) floats
    ++ map (λ s. (abstract_int, s)) (abstract_float ∷ (integers ++ floats))

-- whether the first converts to the second
abbrev pub is_convertible : Scalar → Scalar → Bool
is_convertible from to = list_any (λ pair. same_scalar from pair.0 && same_scalar to pair.1) conversions
