use Rattle.shader_json_reader.proofs.AnswerLemmas.{passed_on}
use Rattle.shader_json_declarations.proofs.InnerLemmas.{of_matrix}
use Rattle.shader_json_declarations.proofs.types.matrix.Goals as goal

pub returns-in_err-columns-clause-accepts : goal.returns-in_err-columns-clause-accepts
returns-in_err-columns-clause-accepts c = λ x u. passed_on _ _ c.from_residual.ensures.1 (of_matrix _ x c.in_err-columns.ensures.accepts u)
