use Rattle.shader_json_reader.proofs.AnswerLemmas.{of_members, passed_on}
use Rattle.shader_json_declarations.proofs.scalars.ScalarRead.read.Goals as goal

pub returns-in_err-kind-clause-accepts : goal.returns-in_err-kind-clause-accepts
returns-in_err-kind-clause-accepts c = λ x h.
    passed_on _ _ c.from_residual-in_err-kind.ensures.1
    (c.in_err-kind.ensures.accepts (x.kind, x.width) (of_members _ _ _ c.in_ok-of.ensures.reads h))
