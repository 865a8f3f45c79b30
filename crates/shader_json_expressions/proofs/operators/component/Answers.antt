use Rattle.shader_json_reader.proofs.AnswerLemmas.{passed_on}
use Rattle.shader_json_expressions.proofs.operators.component.Goals as goal

pub returns-in_err-component-clause-accepts : goal.returns-in_err-component-clause-accepts
returns-in_err-component-clause-accepts c = λ x h.
    passed_on _ _ c.from_residual.ensures.1 (c.in_err-component.ensures.accepts (c.read.ensures.accepts (record { 0 = x }) h))
