-- What is written of bounds spells a value.
use Rattle.std.proofs.Common.{ℕ, suc}
use Rattle.shader_bounds.specs.declared.lengths.IndexableLength.{IndexableLength}
use Rattle.shader_bounds.specs.declared.lengths.IndexableLength.TheVariants.{Known, Dynamic}
use Rattle.report_json.proofs.SpellingLemmas.{each_item, one_member, spell_array, spell_number, spell_object, spell_text}
use Rattle.report_json.proofs.SpellingLemmas.{spell_variant, then_member}
use Rattle.report_json.specs.Values.{SpellValue}
use Rattle.shader_report_bounds.specs.Tokens.{bounds_tokens, check_tokens, function_tokens, index_tokens, length_tokens}
use Rattle.shader_report_bounds.specs.declared.accesses.AccessCheck.{AccessCheck}
use Rattle.shader_report_bounds.specs.declared.accesses.AccessIndex.{AccessIndex}
use Rattle.shader_report_bounds.specs.declared.accesses.AccessIndex.TheVariants as at
use Rattle.shader_report_bounds.specs.declared.function.FunctionBounds.{FunctionBounds}
use Rattle.shader_report_bounds.specs.declared.module_bounds.ModuleBounds.{ModuleBounds}
use Rattle.shader_report_bounds.specs.declared.module_bounds.ModuleBounds.TheVariants.{Found, Unsized}

index_value : {most : ℕ} (index : AccessIndex) → SpellValue (suc most) (index_tokens index)
unfolding index_tokens
index_value (at.Known index) = spell_variant spell_number
index_value (at.Computed index) = spell_variant spell_number

length_value : {most : ℕ} (length : IndexableLength) → SpellValue (suc most) (length_tokens length)
unfolding length_tokens
length_value (Known length) = spell_variant spell_number
length_value Dynamic = spell_text

check_value : {most : ℕ} (check : AccessCheck) → SpellValue (suc (suc most)) (check_tokens check)
unfolding check_tokens
check_value check =
    spell_object (then_member spell_number (then_member spell_number (then_member (index_value check.index)
    (then_member (length_value check.length) (one_member spell_text)))))

function_value : (bounds : FunctionBounds) → SpellValue 4 (function_tokens bounds)
unfolding function_tokens
function_value bounds =
    spell_object (then_member (spell_array (each_item check_value bounds.accesses.items))
    (then_member (spell_array (each_item (λ index. spell_number) bounds.checked_indexes.items))
    (one_member (spell_array (each_item (λ ty. spell_number) bounds.local_types.items)))))

pub bounds_value : (bounds : ModuleBounds) → SpellValue 6 (bounds_tokens bounds)
unfolding bounds_tokens
bounds_value (Unsized handle) = spell_variant spell_number
bounds_value (Found functions entry_points) =
    spell_object (then_member (spell_array (each_item function_value functions.items))
    (one_member (spell_array (each_item function_value entry_points.items))))
