-- Literals as WGSL spells them.
use Rattle.std.specs.Prelude.{◌≡◌, ◌==◌, ◌++◌, ℕ, ⊤, List, Option, Some, None, true, false, bit_and, codes, if◌then◌else◌}
use Rattle.std.specs.Fmt.{decimal, signed_decimal}
use Rattle.std.specs.Option.{MatchOption}
use Rattle.shader_ir.specs.declared.literal.Literal.{Literal}
use Rattle.shader_ir.specs.declared.literal.Literal.TheVariants as literals

-- an f64 that is infinite or a NaN is written as its bits; no clause says which digits another has
abbrev pub double_text : ℕ → Option (List ℕ)
double_text bits =
    if bit_and bits 0x7FF0_0000_0000_0000 == 0x7FF0_0000_0000_0000 then Some (codes "bitcast<f64>(" ++ decimal bits ++ codes "lu)")
    else None

-- the text of a literal; that of a float is left open, but for what WGSL has no literal for
abbrev pub literal_text : Literal → Option (List ℕ)
literal_text (literals.F64 bits) = double_text bits
literal_text (literals.F32 bits) =
    if bit_and bits 0x7F80_0000 == 0x7F80_0000 then Some (codes "bitcast<f32>(" ++ decimal bits ++ codes "u)") else None
literal_text (literals.F16 bits) =
    if bit_and bits 0x7C00 == 0x7C00 then Some (codes "bitcast<vec2<f16>>(" ++ decimal bits ++ codes "u).x") else None
literal_text (literals.AbstractFloat bits) = double_text bits
literal_text (literals.U16 n) = Some (codes "u16(" ++ decimal n ++ codes ")")
literal_text (literals.I16 n) = Some (codes "i16(" ++ signed_decimal n ++ codes ")")
literal_text (literals.U32 n) = Some (decimal n ++ codes "u")
literal_text (literals.I32 n) = Some (signed_decimal n)
literal_text (literals.U64 n) = Some (decimal n ++ codes "lu")
literal_text (literals.I64 n) = Some (signed_decimal n ++ codes "li")
literal_text (literals.AbstractInt n) = Some (signed_decimal n)
literal_text (literals.Bool true) = Some (codes "true")
literal_text (literals.Bool false) = Some (codes "false")

-- the text is the given one, if one is given
abbrev pub IsText : Option (List ℕ) → List ℕ → Type 0
IsText given text = MatchOption given ⊤ (λ bytes. text ≡ bytes)
