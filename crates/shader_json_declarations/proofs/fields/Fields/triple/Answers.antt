use Rattle.shader_json_reader.proofs.AnswerLemmas.{passed_on}
use Rattle.shader_json_declarations.proofs.fields.Fields.triple.Goals as goal

pub returns-in_err-first-clause-accepts : goal.returns-in_err-first-clause-accepts
returns-in_err-first-clause-accepts g c = λ x h.
    passed_on _ _ c.from_residual.ensures.1 (c.in_err-first.ensures.accepts (x.0, x.1) (h.0, h.1))

pub returns-in_err-needed-clause-accepts : goal.returns-in_err-needed-clause-accepts
returns-in_err-needed-clause-accepts g c = λ x h.
    passed_on _ _ c.from_residual-in_err-needed.ensures.1 (c.in_err-needed.ensures.accepts x.2 h.2)
