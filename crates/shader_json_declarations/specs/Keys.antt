-- Keys of predeclared types, as they are read.
use Rattle.std.specs.Prelude.{ℕ, List}
use Rattle.json.specs.Json.{Json}
use Rattle.shader_ir.specs.declared.module.PredeclaredType.{PredeclaredType}
use Rattle.shader_ir.specs.declared.scalar.Scalar.{Scalar}
use Rattle.shader_json_reader.specs.Numbers.{IsHandle}
use Rattle.shader_json_reader.specs.Shapes.{IsAbsent, IsArray, IsPair}
use Rattle.shader_json_declarations.specs.SpecialTypes.{IsExchangeResult, IsPredeclared}
use Rattle.shader_json_declarations.specs.declared.special_types.Key.{Key}
use Rattle.shader_json_declarations.specs.declared.special_types.Key.TheVariants.{Dropped, Supported}

abbrev pub IsKey : Json → Key → Type 0
IsKey j (Supported ty) = IsPredeclared j ty
IsKey j (Dropped scalar) = IsExchangeResult j scalar

-- a key with the handle of its type
abbrev pub IsKeyed : Json → Key → ℕ → Type 0
IsKeyed j key handle = IsArray j (IsPair (λ k ty. IsKey k key × IsHandle ty handle))

-- the key is none of those that are stored, or dropped
abbrev pub IsNew : Key → (stored : List PredeclaredType) (dropped : List Scalar) → Type 0
IsNew (Supported ty) stored dropped = IsAbsent ty stored
IsNew (Dropped scalar) stored dropped = IsAbsent scalar dropped
