use Rattle.shader_json_reader.proofs.AnswerLemmas.{passed_on}
use Rattle.shader_json_declarations.proofs.InnerLemmas.{of_ray_query}
use Rattle.shader_json_declarations.proofs.types.ray_query.Goals as goal

pub returns-in_err-field-clause-accepts : goal.returns-in_err-field-clause-accepts
returns-in_err-field-clause-accepts c = λ x u. passed_on _ _ c.from_residual.ensures.1 (of_ray_query _ x c.in_err-field.ensures.accepts u)
