use Rattle.shader_json_reader.proofs.AnswerLemmas.{passed_on}
use Rattle.shader_json_functions.proofs.functions.fill.Goals as goal

pub returns-in_err-expressions-clause-accepts : goal.returns-in_err-expressions-clause-accepts
returns-in_err-expressions-clause-accepts c = λ f h.
    passed_on _ _ c.from_residual.ensures.1 (c.in_err-expressions.ensures.accepts (record { 0 = f.expressions }) h.0)

pub returns-in_err-body-clause-accepts : goal.returns-in_err-body-clause-accepts
returns-in_err-body-clause-accepts c = λ f h.
    passed_on _ _ c.from_residual-in_err-body.ensures.1 (c.in_err-body.ensures.accepts (record { 0 = f.body }) h.1)

pub returns-in_err-fill_declarations-clause-accepts : goal.returns-in_err-fill_declarations-clause-accepts
returns-in_err-fill_declarations-clause-accepts c = λ f h.
    passed_on _ _ c.from_residual-in_err-fill_declarations.ensures.1
    (c.in_err-fill_declarations.ensures.accepts f (h.2, h.3, h.4, h.5, h.6, h.7))
