use Rattle.shader_json_reader.proofs.AnswerLemmas.{passed_on}
use Rattle.shader_json_declarations.proofs.InnerLemmas.{of_vector}
use Rattle.shader_json_declarations.proofs.types.vector.Goals as goal

pub returns-in_err-size-clause-accepts : goal.returns-in_err-size-clause-accepts
returns-in_err-size-clause-accepts c = λ x u. passed_on _ _ c.from_residual.ensures.1 (of_vector _ x c.in_err-size.ensures.accepts u)
