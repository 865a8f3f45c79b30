use Rattle.shader_json_reader.proofs.AnswerLemmas.{passed_on}
use Rattle.shader_json_declarations.proofs.InnerLemmas.{of_image}
use Rattle.shader_json_declarations.proofs.types.image.Goals as goal

pub returns-in_err-dim-clause-accepts : goal.returns-in_err-dim-clause-accepts
returns-in_err-dim-clause-accepts c = λ x u. passed_on _ _ c.from_residual.ensures.1 (of_image _ x c.in_err-dim.ensures.accepts u)
