use Rattle.std.proofs.Common.{◌∙◌, sym}
use Rattle.json.specs.Value.{value_view}
use Rattle.shader_json_reader.proofs.AnswerLemmas.{passed_on}
use Rattle.shader_json_expressions.specs.Operators.{IsComponent}
use Rattle.shader_json_expressions.proofs.AnswerLemmas.{with_some}
use Rattle.shader_json_expressions.proofs.operators.CodeOptionSwizzleComponentRead.read.Goals as goal

pub returns-in_err-component-clause-accepts : goal.returns-in_err-component-clause-accepts
returns-in_err-component-clause-accepts c = λ x h.
    passed_on _ _ c.from_residual.ensures.1
    (with_some IsComponent (value_view c.args.value.now) x.0 (sym c.is_null.ensures ∙ c.if-is_null.false)
    (λ component is. c.in_err-component.ensures.accepts (record { 0 = component }) is) h)
