use Rattle.shader_json_reader.proofs.AnswerLemmas.{passed_on}
use Rattle.shader_json_declarations.proofs.InnerLemmas.{of_acceleration_structure}
use Rattle.shader_json_declarations.proofs.types.acceleration_structure.Goals as goal

pub returns-in_err-field-clause-accepts : goal.returns-in_err-field-clause-accepts
returns-in_err-field-clause-accepts c = λ x u. passed_on _ _ c.from_residual.ensures.1 (of_acceleration_structure _ x c.in_err-field.ensures.accepts u)
