-- The texts of types, and the type that a word spells.
use Rattle.std.specs.Prelude.{◌==◌, ◌<◌, ◌≤◌, ◌^◌, ℕ, List, [], ◌∷◌, ◌++◌, codes, Option, Some, None, find}
use Rattle.std.specs.Option.{option_map, option_and_then}
use Rattle.std.specs.List.{slice_split, join_with_byte}
use Rattle.std.specs.Str.{bytes_eq}
use Rattle.std.specs.Fmt.{decimal}
use Rattle.shader_ir.specs.declared.scalar.Scalar as s
use Rattle.shader_ir.specs.declared.scalar.VectorSize.{VectorSize}
use Rattle.shader_ir.specs.declared.scalar.VectorSize.TheVariants.{Bi, Tri, Quad}
use Rattle.shader_ir.specs.declared.types.TypeInner.{TypeInner}
use Rattle.shader_ir.specs.declared.types.TypeInner.TheVariants as inner
use Rattle.shader_ir.specs.Scalars.{size_text}
use Rattle.shader_type_text.specs.declared.shape.Shape.{Shape}
use Rattle.shader_type_text.specs.declared.shape.Shape.TheVariants as shapes
use Rattle.shader_type_text.specs.declared.types.PlainType.{PlainType}
use Rattle.shader_type_text.specs.declared.types.PlainType.TheVariants.{Scalar, Vector, Matrix}
use Rattle.shader_type_text.specs.declared.types.SpelledType.{SpelledType}
use Rattle.shader_type_text.specs.declared.types.SpelledType.TheVariants.{Plain, Array}
use Rattle.shader_type_text.specs.Cuts.{after_prefix, before_suffix, generic_parts}
use Rattle.shader_type_text.specs.Numbers.{number_of_word, count_of_word}
use Rattle.shader_type_text.specs.Scalars.{scalar_text, scalar_of_word, IsNamedScalar}

-- ---- texts of types

-- `vecN` and `matCxR`
abbrev pub shape_text : Shape → List ℕ
shape_text (shapes.Vector size) = codes "vec" ++ size_text size
shape_text (shapes.Matrix columns rows) = codes "mat" ++ size_text columns ++ codes "x" ++ size_text rows

-- a scalar, `vecN<S>` or `matCxR<S>`
abbrev pub plain_text : PlainType → List ℕ
plain_text (Scalar scalar) = scalar_text scalar
plain_text (Vector size scalar) = shape_text (shapes.Vector size) ++ codes "<" ++ scalar_text scalar ++ codes ">"
plain_text (Matrix columns rows scalar) = shape_text (shapes.Matrix columns rows) ++ codes "<" ++ scalar_text scalar ++ codes ">"

-- a plain type, or `array<T,N,STRIDE>`
abbrev pub type_text : SpelledType → List ℕ
type_text (Plain plain) = plain_text plain
type_text (Array base count stride) =
    codes "array<" ++ join_with_byte 44 (plain_text base ∷ decimal count ∷ decimal stride ∷ []) ++ codes ">"

-- a type whose scalar has a name
abbrev pub IsNamedPlain : PlainType → Type 0
IsNamedPlain (Scalar scalar) = IsNamedScalar scalar
IsNamedPlain (Vector size scalar) = IsNamedScalar scalar
IsNamedPlain (Matrix columns rows scalar) = IsNamedScalar scalar

-- a type that can be written: its scalar is a named one, and its numbers have 32 bits
abbrev pub IsWritable : SpelledType → Type 0
IsWritable (Plain plain) = IsNamedPlain plain
IsWritable (Array base count stride) = IsNamedPlain base × (1 ≤ count) × (count < 2 ^ 32) × (stride < 2 ^ 32)

-- ---- the type that a word spells

abbrev pub all_shapes : List Shape
all_shapes = shapes.Vector Bi ∷ shapes.Vector Tri ∷ shapes.Vector Quad
    ∷ shapes.Matrix Bi Bi ∷ shapes.Matrix Bi Tri ∷ shapes.Matrix Bi Quad
    ∷ shapes.Matrix Tri Bi ∷ shapes.Matrix Tri Tri ∷ shapes.Matrix Tri Quad
    ∷ shapes.Matrix Quad Bi ∷ shapes.Matrix Quad Tri ∷ shapes.Matrix Quad Quad ∷ []

abbrev pub shape_of_word : List ℕ → Option Shape
shape_of_word word = find (λ shape. bytes_eq (shape_text shape) word) all_shapes

abbrev pub shape_type : Shape → s.Scalar → PlainType
shape_type (shapes.Vector size) scalar = Vector size scalar
shape_type (shapes.Matrix columns rows) scalar = Matrix columns rows scalar

abbrev pub plain_from : List ℕ → Option (List ℕ × List ℕ) → Option PlainType
plain_from word None = option_map Scalar (scalar_of_word word)
plain_from word (Some parts) = option_and_then (λ scalar. option_map (λ shape. shape_type shape scalar)
    (shape_of_word parts.0)) (scalar_of_word parts.1)

-- a shape with a scalar in brackets, or else a scalar
abbrev pub plain_of : List ℕ → Option PlainType
plain_of word = plain_from word (generic_parts word)

-- the text between the brackets of `array<..>`
abbrev pub array_items : List ℕ → Option (List ℕ)
array_items word = option_and_then (before_suffix (codes ">")) (after_prefix (codes "array<") word)

-- the array that three words spell
abbrev pub array_type : List ℕ → List ℕ → List ℕ → Option SpelledType
array_type base count stride = option_and_then (λ plain. option_and_then (λ n. option_map (λ bytes. Array plain n bytes)
    (number_of_word stride)) (count_of_word count)) (plain_of base)

abbrev pub array_from : List (List ℕ) → Option SpelledType
array_from (base ∷ count ∷ stride ∷ []) = array_type base count stride
array_from _ = None

abbrev pub type_from : List ℕ → Option (List ℕ) → Option SpelledType
type_from word None = option_map Plain (plain_of word)
type_from word (Some items) = array_from (slice_split (λ b. b == 44) items)

abbrev pub type_of : List ℕ → Option SpelledType
type_of word = type_from word (array_items word)

-- ---- the types in the IR

abbrev pub plain_inner : PlainType → TypeInner
plain_inner (Scalar scalar) = inner.Scalar scalar
plain_inner (Vector size scalar) = inner.Vector size scalar
plain_inner (Matrix columns rows scalar) = inner.Matrix columns rows scalar
