-- What is written of a module spells members.
use Rattle.std.proofs.Common.{[], ◌∷◌, arith, codes, List, Option, Some, None, Result, Ok, Err, subst, sym}
use Rattle.json.specs.Token.{Token}
use Rattle.report_json.proofs.SpellingLemmas.{each_item, one_member, one_named, spell_array, spell_object, spell_text, then_member}
use Rattle.report_json.proofs.SpellingLemmas.{then_named, value_within}
use Rattle.report_json.proofs.ValueLemmas.{function_value, layout_error_value, layout_value, refusal_value, resolution_value}
use Rattle.report_json.specs.Functions.{answer_tokens}
use Rattle.report_json.specs.Values.{SpellNamed}
use Rattle.report_json.specs.declared.functions.FunctionAnswer.{FunctionAnswer}
use Rattle.report_model.specs.declared.analyzed.Analyzed.{Analyzed}
use Rattle.report_model.specs.declared.analyzed.Analyzed.TheVariants.{Fault, WellFormed}
use Rattle.shader_analysis.specs.Recorded.{Recorded}
use Rattle.shader_info.specs.declared.error.AnalysisError.{AnalysisError}
use Rattle.shader_ir.specs.declared.proc.layouter.LayoutError.{LayoutError}
use Rattle.shader_ir.specs.declared.proc.layouter.TypeLayout.{TypeLayout}
use Rattle.shader_ir.specs.declared.proc.type_resolution.TypeResolution.{TypeResolution}
use Rattle.shader_report_json.specs.Answers.{AreInfoMembers, AreModuleMembers, info_name, info_tokens, layouts_members, layouts_name}
use Rattle.shader_report_json.specs.Answers.{module_names}

recorded_named : (functions entry_points : List FunctionAnswer) (types : List TypeResolution) →
    SpellNamed 10 (codes "info" ∷ []) (info_tokens functions entry_points types)
recorded_named functions entry_points types =
    let each = λ (answer : FunctionAnswer). function_value answer.info.now answer.pairs answer.sampling in
    one_named (spell_object (then_member (spell_array (each_item {f = answer_tokens} each functions))
    (then_member (spell_array (each_item {f = answer_tokens} each entry_points))
    (one_member (spell_array (each_item (λ ty. value_within (resolution_value ty) (omega arith)) types))))))

info_named : (found : Result Recorded AnalysisError) (tokens : List Token) → AreInfoMembers found tokens →
    SpellNamed 10 (info_name found ∷ []) tokens
info_named (Ok infos) tokens are =
    subst (SpellNamed 10 (info_name (Ok infos) ∷ [])) (sym are.written)
    (recorded_named are.functions are.entry_points infos.global_expressions)
info_named (Err error) tokens are =
    subst (SpellNamed 10 (info_name (Err error) ∷ [])) (sym are) (one_named (value_within (refusal_value error) (omega arith)))

layouts_named : (layouts : List TypeLayout) (error : Option LayoutError) →
    SpellNamed 10 (layouts_name error ∷ []) (layouts_members layouts error)
layouts_named layouts None = one_named (spell_array (each_item layout_value layouts))
layouts_named layouts (Some error) = one_named (layout_error_value error)

pub module_named : (analyzed : Analyzed) (tokens : List Token) → AreModuleMembers analyzed tokens →
    SpellNamed 10 (module_names analyzed) tokens
module_named (Fault found) tokens are = subst (SpellNamed 10 (module_names (Fault found))) (sym are) (one_named spell_text)
module_named (WellFormed analysis) tokens are =
    subst (SpellNamed 10 (module_names (WellFormed analysis))) (sym are.written)
    (then_named (layouts_named analysis.layouts analysis.layout_error) (info_named analysis.info are.info are.info_are))
