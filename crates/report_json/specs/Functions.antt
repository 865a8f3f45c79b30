-- Infos of functions as JSON.
use Rattle.std.specs.Prelude.{ℕ, List, [], ◌∷◌, ◌++◌, Bool, codes, flat_map}
use Rattle.json.specs.Token.{Token, boolean, key}
use Rattle.shader_info.specs.declared.flags.GlobalUse.{GlobalUse}
use Rattle.shader_info.specs.declared.info.FunctionInfo.{FunctionInfo}
use Rattle.report_json.specs.declared.functions.FunctionAnswer.{FunctionAnswer}
use Rattle.report_json.specs.Flags.{stages_text, uses_text}
use Rattle.report_json.specs.Infos.{expression_tokens, resource_tokens, uniformity_tokens}
use Rattle.report_json.specs.Tokens.{array, number_tokens, object, text_tokens}

-- the positions of a global image and of a global sampler
unfoldable pub pair_tokens : ℕ × ℕ → List Token
pair_tokens pair = object (key (codes "image") ∷ (number_tokens pair.0 ++ key (codes "sampler") ∷ number_tokens pair.1))

-- an image and a sampler
unfoldable pub sampling_tokens : (Bool × ℕ) × (Bool × ℕ) → List Token
sampling_tokens pair = object (key (codes "image") ∷ (resource_tokens pair.0 ++ key (codes "sampler") ∷ resource_tokens pair.1))

-- the pairs are given as lists, since a set has no order
unfoldable pub function_tokens : FunctionInfo → List (ℕ × ℕ) → List ((Bool × ℕ) × (Bool × ℕ)) → List Token
function_tokens info pairs sampling =
    object (key (codes "available_stages") ∷ (text_tokens (stages_text info.available_stages)
    ++ key (codes "uniformity") ∷ (uniformity_tokens info.uniformity
    ++ key (codes "may_kill") ∷ boolean info.may_kill
    ∷ key (codes "sampling_set") ∷ (array (flat_map pair_tokens pairs)
    ++ key (codes "global_uses") ∷ (array (flat_map (λ (uses : GlobalUse). text_tokens (uses_text uses)) info.global_uses)
    ++ key (codes "expressions") ∷ (array (flat_map expression_tokens info.expressions)
    ++ key (codes "sampling") ∷ (array (flat_map sampling_tokens sampling)
    ++ key (codes "dual_source_blending") ∷ boolean info.dual_source_blending ∷ [])))))))

abbrev pub answer_tokens : FunctionAnswer → List Token
answer_tokens answer = function_tokens answer.info.now answer.pairs answer.sampling
