use Rattle.shader_json_reader.proofs.AnswerLemmas.{of_members, passed_on}
use Rattle.shader_json_declarations.proofs.values.RangeRead.read.Goals as goal

pub returns-in_err-start-clause-accepts : goal.returns-in_err-start-clause-accepts
returns-in_err-start-clause-accepts g c = λ x h.
    let f = of_members _ _ _ c.in_ok-fields.ensures.reads h in
    passed_on _ _ c.from_residual-in_err-start.ensures.1 (c.in_err-start.ensures.accepts (x.0, x.1) (f.0, f.1))
