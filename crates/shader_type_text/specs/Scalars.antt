-- The texts of scalars, and the scalar that a word names.
use Rattle.std.specs.Prelude.{◌≡◌, ◌*◌, ℕ, List, [], ◌∷◌, ◌++◌, find, codes, Option}
use Rattle.std.specs.Option.{option_map}
use Rattle.std.specs.Str.{bytes_eq}
use Rattle.std.specs.Fmt.{decimal}
use Rattle.shader_ir.specs.declared.scalar.ScalarKind.{ScalarKind}
use Rattle.shader_ir.specs.declared.scalar.ScalarKind.TheVariants as kinds
use Rattle.shader_ir.specs.declared.scalar.Scalar.{Scalar}
use Rattle.shader_ir.specs.Scalars.{scalar}
use Rattle.shader_type_text.specs.declared.scalars.ScalarName.{ScalarName}
use Rattle.shader_type_text.specs.declared.scalars.ScalarName.TheVariants.{I16, I32, I64, U16, U32, U64, F16, F32}
use Rattle.shader_type_text.specs.declared.scalars.ScalarName.TheVariants.{F64, AbstractInt, AbstractFloat}
use Rattle.shader_type_text.specs.declared.scalars.ScalarName.TheVariants as names

abbrev pub kind_text : ScalarKind → ℕ → List ℕ
kind_text kinds.Sint bits = codes "i" ++ decimal bits
kind_text kinds.Uint bits = codes "u" ++ decimal bits
kind_text kinds.Float bits = codes "f" ++ decimal bits
kind_text kinds.Bool bits = codes "bool"
kind_text kinds.AbstractInt bits = codes "AbstractInt"
kind_text kinds.AbstractFloat bits = codes "AbstractFloat"

-- a letter and the bits, or the name of the kind
abbrev pub scalar_text : Scalar → List ℕ
scalar_text scalar = kind_text scalar.kind (8 * scalar.width)

abbrev pub scalar_name_text : ScalarName → List ℕ
scalar_name_text I16 = codes "i16"
scalar_name_text I32 = codes "i32"
scalar_name_text I64 = codes "i64"
scalar_name_text U16 = codes "u16"
scalar_name_text U32 = codes "u32"
scalar_name_text U64 = codes "u64"
scalar_name_text F16 = codes "f16"
scalar_name_text F32 = codes "f32"
scalar_name_text F64 = codes "f64"
scalar_name_text names.Bool = codes "bool"
scalar_name_text AbstractInt = codes "AbstractInt"
scalar_name_text AbstractFloat = codes "AbstractFloat"

abbrev pub named_scalar : ScalarName → Scalar
named_scalar I16 = scalar kinds.Sint 2
named_scalar I32 = scalar kinds.Sint 4
named_scalar I64 = scalar kinds.Sint 8
named_scalar U16 = scalar kinds.Uint 2
named_scalar U32 = scalar kinds.Uint 4
named_scalar U64 = scalar kinds.Uint 8
named_scalar F16 = scalar kinds.Float 2
named_scalar F32 = scalar kinds.Float 4
named_scalar F64 = scalar kinds.Float 8
named_scalar names.Bool = scalar kinds.Bool 1
named_scalar AbstractInt = scalar kinds.AbstractInt 8
named_scalar AbstractFloat = scalar kinds.AbstractFloat 8

abbrev pub all_names : List ScalarName
all_names = I16 ∷ I32 ∷ I64 ∷ U16 ∷ U32 ∷ U64 ∷ F16 ∷ F32 ∷ F64 ∷ names.Bool ∷ AbstractInt ∷ AbstractFloat ∷ []

abbrev pub name_of : List ℕ → Option ScalarName
name_of word = find (λ name. bytes_eq (scalar_name_text name) word) all_names

-- the scalar that a word names
abbrev pub scalar_of_word : List ℕ → Option Scalar
scalar_of_word word = option_map named_scalar (name_of word)

-- a word names the scalar
abbrev pub IsNamedScalar : Scalar → Type 0
IsNamedScalar scalar = (name : ScalarName) × (scalar ≡ named_scalar name)
