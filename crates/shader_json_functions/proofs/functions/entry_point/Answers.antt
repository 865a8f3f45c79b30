use Rattle.shader_json_reader.proofs.AnswerLemmas.{of_members, passed_on}
use Rattle.shader_json_functions.proofs.functions.entry_point.Goals as goal

pub returns-in_err-function-clause-accepts : goal.returns-in_err-function-clause-accepts
returns-in_err-function-clause-accepts c = λ e h.
    let has = of_members _ _ _ c.in_ok-fields.ensures.reads h in
    passed_on _ _ c.from_residual-in_err-function.ensures.1
    (c.in_err-function.ensures.accepts (record { 0 = e.function }, e.name, e.stage) (has.0, has.1, has.2))

pub returns-in_err-check_workgroup_size-clause-accepts : goal.returns-in_err-check_workgroup_size-clause-accepts
returns-in_err-check_workgroup_size-clause-accepts c = λ e h.
    let has = of_members _ _ _ c.in_ok-fields.ensures.reads h in
    passed_on _ _ c.from_residual-in_err-check_workgroup_size.ensures.1 (c.in_err-check_workgroup_size.ensures.accepts has.3)
