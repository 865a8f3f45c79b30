use Rattle.shader_json_reader.proofs.AnswerLemmas.{passed_on}
use Rattle.shader_json_declarations.proofs.InnerLemmas.{of_struct}
use Rattle.shader_json_declarations.proofs.types.structure.Goals as goal

pub returns-in_err-members-clause-accepts : goal.returns-in_err-members-clause-accepts
returns-in_err-members-clause-accepts c = λ x u. passed_on _ _ c.from_residual.ensures.1 (of_struct _ x c.in_err-members.ensures.accepts u)
