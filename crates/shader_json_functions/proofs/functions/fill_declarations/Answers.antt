use Rattle.shader_json_reader.proofs.AnswerLemmas.{passed_on}
use Rattle.shader_json_functions.proofs.functions.fill_declarations.Goals as goal

pub returns-in_err-function-clause-accepts : goal.returns-in_err-function-clause-accepts
returns-in_err-function-clause-accepts c = λ f h. passed_on _ _ c.from_residual.ensures.1 (c.in_err-function.ensures.accepts f.name h.0)

pub returns-in_err-function-2-clause-accepts : goal.returns-in_err-function-2-clause-accepts
returns-in_err-function-2-clause-accepts c = λ f h.
    passed_on _ _ c.from_residual-in_err-function-2.ensures.1 (c.in_err-function-2.ensures.accepts f.arguments h.1)

pub returns-in_err-function-3-clause-accepts : goal.returns-in_err-function-3-clause-accepts
returns-in_err-function-3-clause-accepts c = λ f h.
    passed_on _ _ c.from_residual-in_err-function-3.ensures.1 (c.in_err-function-3.ensures.accepts f.result h.2)

pub returns-in_err-function-4-clause-accepts : goal.returns-in_err-function-4-clause-accepts
returns-in_err-function-4-clause-accepts c = λ f h.
    passed_on _ _ c.from_residual-in_err-function-4.ensures.1 (c.in_err-function-4.ensures.accepts f.local_variables h.3)

pub returns-in_err-function-5-clause-accepts : goal.returns-in_err-function-5-clause-accepts
returns-in_err-function-5-clause-accepts c = λ f h.
    passed_on _ _ c.from_residual-in_err-function-5.ensures.1 (c.in_err-function-5.ensures.accepts f.named_expressions h.5)

pub returns-in_err-function-6-clause-accepts : goal.returns-in_err-function-6-clause-accepts
returns-in_err-function-6-clause-accepts c = λ f h.
    passed_on _ _ c.from_residual-in_err-function-6.ensures.1 (c.in_err-function-6.ensures.accepts f.diagnostic_filter_leaf h.4)
