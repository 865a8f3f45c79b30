use Rattle.shader_json_reader.proofs.AnswerLemmas.{passed_on}
use Rattle.shader_json_module.proofs.module.fill_declarations.Goals as goal

pub returns-in_err-module-clause-accepts : goal.returns-in_err-module-clause-accepts
returns-in_err-module-clause-accepts c = λ m h. passed_on _ _ c.from_residual.ensures.1 (c.in_err-module.ensures.accepts m.special_types h.0)

pub returns-in_err-module-2-clause-accepts : goal.returns-in_err-module-2-clause-accepts
returns-in_err-module-2-clause-accepts c = λ m h. passed_on _ _ c.from_residual-in_err-module-2.ensures.1 (c.in_err-module-2.ensures.accepts m.constants h.1)

pub returns-in_err-module-3-clause-accepts : goal.returns-in_err-module-3-clause-accepts
returns-in_err-module-3-clause-accepts c = λ m h. passed_on _ _ c.from_residual-in_err-module-3.ensures.1 (c.in_err-module-3.ensures.accepts m.overrides h.2)

pub returns-in_err-module-4-clause-accepts : goal.returns-in_err-module-4-clause-accepts
returns-in_err-module-4-clause-accepts c = λ m h. passed_on _ _ c.from_residual-in_err-module-4.ensures.1 (c.in_err-module-4.ensures.accepts m.global_variables h.3)

pub returns-in_err-module-5-clause-accepts : goal.returns-in_err-module-5-clause-accepts
returns-in_err-module-5-clause-accepts c = λ m h. passed_on _ _ c.from_residual-in_err-module-5.ensures.1 (c.in_err-module-5.ensures.accepts m.diagnostic_filters h.4)
