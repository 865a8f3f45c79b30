-- Literals in the JSON of modules. An f16 is the integer of its bits.
use Rattle.std.specs.Prelude.{ℕ, List, Option, codes}
use Rattle.json.specs.Json.{Json}
use Rattle.shader_ir.specs.declared.literal.Literal.{Literal}
use Rattle.shader_ir.specs.declared.literal.Literal.TheVariants as l
use Rattle.shader_json_reader.specs.Numbers.{IsDouble, IsI16, IsI32, IsI64, IsSingle, IsTruth, IsU16, IsU32, IsU64}
use Rattle.shader_json_reader.specs.Shapes.{IsVariant, IsNewtype}

abbrev pub IsLiteralOf : List ℕ → Option Json → Literal → Type 0
IsLiteralOf name payload (l.F64 bits) = IsNewtype (codes "F64") name payload (λ j. IsDouble j bits)
IsLiteralOf name payload (l.F32 bits) = IsNewtype (codes "F32") name payload (λ j. IsSingle j bits)
IsLiteralOf name payload (l.F16 bits) = IsNewtype (codes "F16") name payload (λ j. IsU16 j bits)
IsLiteralOf name payload (l.AbstractFloat bits) = IsNewtype (codes "AbstractFloat") name payload (λ j. IsDouble j bits)
IsLiteralOf name payload (l.U16 n) = IsNewtype (codes "U16") name payload (λ j. IsU16 j n)
IsLiteralOf name payload (l.I16 n) = IsNewtype (codes "I16") name payload (λ j. IsI16 j n)
IsLiteralOf name payload (l.U32 n) = IsNewtype (codes "U32") name payload (λ j. IsU32 j n)
IsLiteralOf name payload (l.I32 n) = IsNewtype (codes "I32") name payload (λ j. IsI32 j n)
IsLiteralOf name payload (l.U64 n) = IsNewtype (codes "U64") name payload (λ j. IsU64 j n)
IsLiteralOf name payload (l.I64 n) = IsNewtype (codes "I64") name payload (λ j. IsI64 j n)
IsLiteralOf name payload (l.AbstractInt n) = IsNewtype (codes "AbstractInt") name payload (λ j. IsI64 j n)
IsLiteralOf name payload (l.Bool truth) = IsNewtype (codes "Bool") name payload (λ j. IsTruth j truth)

abbrev pub IsLiteral : Json → Literal → Type 0
IsLiteral j literal = IsVariant j (λ name payload. IsLiteralOf name payload literal)
