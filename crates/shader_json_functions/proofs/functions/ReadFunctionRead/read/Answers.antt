use Rattle.shader_json_reader.proofs.AnswerLemmas.{of_members, passed_on}
use Rattle.shader_json_functions.proofs.functions.ReadFunctionRead.read.Goals as goal

pub returns-in_err-fill-clause-accepts : goal.returns-in_err-fill-clause-accepts
returns-in_err-fill-clause-accepts c = λ f h.
    let has = of_members _ _ _ c.in_ok-fields.ensures.reads h in
    passed_on _ _ c.from_residual-in_err-fill.ensures.1 (c.in_err-fill.ensures.accepts f.0 has)
