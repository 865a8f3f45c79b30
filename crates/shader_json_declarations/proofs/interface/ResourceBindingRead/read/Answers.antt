use Rattle.shader_json_reader.proofs.AnswerLemmas.{of_members, passed_on}
use Rattle.shader_json_declarations.proofs.interface.ResourceBindingRead.read.Goals as goal

pub returns-in_err-group-clause-accepts : goal.returns-in_err-group-clause-accepts
returns-in_err-group-clause-accepts c = λ x h.
    passed_on _ _ c.from_residual-in_err-group.ensures.1
    (c.in_err-group.ensures.accepts (x.group, x.binding) (of_members _ _ _ c.in_ok-of.ensures.reads h))
