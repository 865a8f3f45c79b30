-- The built-in values of naga in the JSON of modules.
use Rattle.std.specs.Prelude.{◌≡◌, ℕ, List, Bool, Option, Some, None, MatchOption}
use Rattle.json.specs.Json.{Json}
use Rattle.shader_builtins.specs.BuiltIns.{built_in_named, flag_named}
use Rattle.shader_ir.specs.declared.binding.BuiltIn.{BuiltIn}
use Rattle.shader_json_reader.specs.Numbers.{IsTruth}
use Rattle.shader_json_reader.specs.Shapes.{HasField, IsObject, IsVariant}

-- the payload of a built-in value with that name is an object with such a flag
abbrev pub IsFlagOf : (name : List ℕ) → Json → Bool → Type 0
IsFlagOf name j flag = MatchOption (flag_named name) ⊥ (λ field. IsObject j (λ ms. HasField IsTruth field ms flag))

-- naga's built-in value with that name, and with a flag if there is a payload
abbrev pub IsBuiltInOf : (name : List ℕ) → Option Json → BuiltIn → Type 0
IsBuiltInOf name None b = built_in_named name None ≡ Some b
IsBuiltInOf name (Some j) b = (flag : Bool) × IsFlagOf name j flag × (built_in_named name (Some flag) ≡ Some b)

abbrev pub IsBuiltIn : Json → BuiltIn → Type 0
IsBuiltIn j b = IsVariant j (λ name payload. IsBuiltInOf name payload b)
