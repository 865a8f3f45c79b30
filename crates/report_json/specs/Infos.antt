-- Infos of expressions, and resources, as JSON.
use Rattle.std.specs.Prelude.{ℕ, List, ◌∷◌, ◌++◌, Bool, true, false, codes, cond}
use Rattle.json.specs.Token.{Token, key}
use Rattle.shader_info.specs.declared.info.ExpressionInfo.{ExpressionInfo}
use Rattle.shader_info.specs.declared.info.GlobalOrArgument.{GlobalOrArgument}
use Rattle.shader_info.specs.declared.info.GlobalOrArgument.TheVariants as resources
use Rattle.shader_info.specs.declared.info.Uniformity.{Uniformity}
use Rattle.report_json.specs.Flags.{requirements_text}
use Rattle.report_json.specs.Tokens.{number_tokens, object, optional_tokens, text_tokens, variant}
use Rattle.report_json.specs.Types.{resolution_tokens}

unfoldable pub uniformity_tokens : Uniformity → List Token
uniformity_tokens uniformity =
    object (key (codes "non_uniform_result") ∷ (optional_tokens number_tokens uniformity.non_uniform_result
    ++ key (codes "requirements") ∷ text_tokens (requirements_text uniformity.requirements)))

unfoldable pub expression_tokens : ExpressionInfo → List Token
expression_tokens info =
    object (key (codes "uniformity") ∷ (uniformity_tokens info.uniformity
    ++ key (codes "ref_count") ∷ (number_tokens info.ref_count
    ++ key (codes "ty") ∷ resolution_tokens info.ty)))

-- true for an argument and false for a global, and the resource's position
abbrev pub resource_key : GlobalOrArgument → Bool × ℕ
resource_key (resources.Global handle) = (false, handle)
resource_key (resources.Argument index) = (true, index)

unfoldable pub resource_tokens : Bool × ℕ → List Token
resource_tokens resource = variant (cond resource.0 (codes "Argument") (codes "Global")) (number_tokens resource.1)
