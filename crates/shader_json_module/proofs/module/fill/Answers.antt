use Rattle.shader_json_reader.proofs.AnswerLemmas.{passed_on}
use Rattle.shader_json_module.proofs.module.fill.Goals as goal

pub returns-in_err-types-clause-accepts : goal.returns-in_err-types-clause-accepts
returns-in_err-types-clause-accepts c = λ m h. passed_on _ _ c.from_residual.ensures.1 (c.in_err-types.ensures.accepts m.types h.0.0)

pub returns-in_err-global_expressions-clause-accepts : goal.returns-in_err-global_expressions-clause-accepts
returns-in_err-global_expressions-clause-accepts c = λ m h. passed_on _ _ c.from_residual-in_err-global_expressions.ensures.1 (c.in_err-global_expressions.ensures.accepts (record { 0 = m.global_expressions }) h.0.1)

pub returns-in_err-functions-clause-accepts : goal.returns-in_err-functions-clause-accepts
returns-in_err-functions-clause-accepts c = λ m h. passed_on _ _ c.from_residual-in_err-functions.ensures.1 (c.in_err-functions.ensures.accepts (record { 0 = m.functions }) h.0.2)

pub returns-in_err-entry_points-clause-accepts : goal.returns-in_err-entry_points-clause-accepts
returns-in_err-entry_points-clause-accepts c = λ m h. passed_on _ _ c.from_residual-in_err-entry_points.ensures.1 (c.in_err-entry_points.ensures.accepts (record { 0 = m.entry_points }) h.0.3)

pub returns-in_err-fill_declarations-clause-accepts : goal.returns-in_err-fill_declarations-clause-accepts
returns-in_err-fill_declarations-clause-accepts c = λ m h.
    passed_on _ _ c.from_residual-in_err-fill_declarations.ensures.1 (c.in_err-fill_declarations.ensures.accepts m h.1)
