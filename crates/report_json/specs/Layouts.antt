-- Layouts, and errors of types without one, as JSON.
use Rattle.std.specs.Prelude.{ℕ, List, ◌∷◌, ◌++◌, codes}
use Rattle.json.specs.Token.{Token, key}
use Rattle.shader_ir.specs.declared.proc.layouter.LayoutError.{LayoutError}
use Rattle.shader_ir.specs.declared.proc.layouter.LayoutErrorInner.{LayoutErrorInner}
use Rattle.shader_ir.specs.declared.proc.layouter.LayoutErrorInner.TheVariants.{InvalidArrayElementType, InvalidStructMemberType}
use Rattle.shader_ir.specs.declared.proc.layouter.LayoutErrorInner.TheVariants.{NonPowerOfTwoWidth, TooLarge}
use Rattle.shader_ir.specs.declared.proc.layouter.TypeLayout.{TypeLayout}
use Rattle.report_json.specs.Tokens.{array, number_tokens, object, text_tokens, variant}

unfoldable pub layout_tokens : TypeLayout → List Token
layout_tokens layout =
    object (key (codes "size") ∷ (number_tokens layout.size
    ++ key (codes "alignment") ∷ number_tokens layout.alignment))

abbrev pub struct_member_tokens : ℕ → ℕ → List Token
struct_member_tokens member ty = array (number_tokens member ++ number_tokens ty)

unfoldable pub layout_cause_tokens : LayoutErrorInner → List Token
layout_cause_tokens (InvalidArrayElementType element) = variant (codes "InvalidArrayElementType") (number_tokens element)
layout_cause_tokens (InvalidStructMemberType member ty) = variant (codes "InvalidStructMemberType") (struct_member_tokens member ty)
layout_cause_tokens NonPowerOfTwoWidth = text_tokens (codes "NonPowerOfTwoWidth")
layout_cause_tokens TooLarge = text_tokens (codes "TooLarge")

unfoldable pub layout_error_tokens : LayoutError → List Token
layout_error_tokens error =
    object (key (codes "ty") ∷ (number_tokens error.ty
    ++ key (codes "inner") ∷ layout_cause_tokens error.inner))
