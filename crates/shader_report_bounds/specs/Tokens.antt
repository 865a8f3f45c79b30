-- Bounds as JSON.
use Rattle.std.specs.Prelude.{ℕ, List, ◌∷◌, ◌++◌, codes, flat_map}
use Rattle.json.specs.Token.{Token, key}
use Rattle.shader_bounds.specs.declared.lengths.IndexableLength.{IndexableLength}
use Rattle.shader_bounds.specs.declared.lengths.IndexableLength.TheVariants.{Known, Dynamic}
use Rattle.shader_bounds.specs.declared.policies.BoundsCheckPolicy.{BoundsCheckPolicy}
use Rattle.shader_bounds.specs.declared.policies.BoundsCheckPolicy.TheVariants.{Restrict, ReadZeroSkipWrite, Unchecked}
use Rattle.report_json.specs.Tokens.{array, number_tokens, object, text_tokens, variant}
use Rattle.shader_report_bounds.specs.declared.accesses.AccessCheck.{AccessCheck}
use Rattle.shader_report_bounds.specs.declared.accesses.AccessIndex.{AccessIndex}
use Rattle.shader_report_bounds.specs.declared.accesses.AccessIndex.TheVariants as at
use Rattle.shader_report_bounds.specs.declared.function.FunctionBounds.{FunctionBounds}
use Rattle.shader_report_bounds.specs.declared.module_bounds.ModuleBounds.{ModuleBounds}
use Rattle.shader_report_bounds.specs.declared.module_bounds.ModuleBounds.TheVariants.{Found, Unsized}

abbrev pub policy_name : BoundsCheckPolicy → List ℕ
policy_name Restrict = codes "Restrict"
policy_name ReadZeroSkipWrite = codes "ReadZeroSkipWrite"
policy_name Unchecked = codes "Unchecked"

unfoldable pub index_tokens : AccessIndex → List Token
index_tokens (at.Known index) = variant (codes "Known") (number_tokens index)
index_tokens (at.Computed index) = variant (codes "Expression") (number_tokens index)

unfoldable pub length_tokens : IndexableLength → List Token
length_tokens (Known length) = variant (codes "Known") (number_tokens length)
length_tokens Dynamic = text_tokens (codes "Dynamic")

unfoldable pub check_tokens : AccessCheck → List Token
check_tokens check =
    object (key (codes "access") ∷ (number_tokens check.access
    ++ key (codes "base") ∷ (number_tokens check.base
    ++ key (codes "index") ∷ (index_tokens check.index
    ++ key (codes "length") ∷ (length_tokens check.length
    ++ key (codes "policy") ∷ text_tokens (policy_name check.policy))))))

unfoldable pub function_tokens : FunctionBounds → List Token
function_tokens bounds =
    object (key (codes "accesses") ∷ (array (flat_map check_tokens bounds.accesses.items)
    ++ key (codes "checked_indexes") ∷ (array (flat_map number_tokens bounds.checked_indexes.items)
    ++ key (codes "oob_local_types") ∷ array (flat_map number_tokens bounds.local_types.items))))

unfoldable pub bounds_tokens : ModuleBounds → List Token
bounds_tokens (Unsized handle) = variant (codes "override") (number_tokens handle)
bounds_tokens (Found functions entry_points) =
    object (key (codes "functions") ∷ (array (flat_map function_tokens functions.items)
    ++ key (codes "entry_points") ∷ array (flat_map function_tokens entry_points.items)))
