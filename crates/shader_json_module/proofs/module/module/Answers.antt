use Rattle.shader_json_reader.proofs.AnswerLemmas.{of_members, passed_on}
use Rattle.shader_json_module.proofs.module.«module».Goals as goal

pub returns-in_err-fill-clause-accepts : goal.returns-in_err-fill-clause-accepts
returns-in_err-fill-clause-accepts c = λ m h.
    passed_on _ _ c.from_residual-in_err-fill.ensures.1 (c.in_err-fill.ensures.accepts m (of_members _ _ _ c.in_ok-fields.ensures.reads h))
