use Rattle.shader_json_reader.proofs.AnswerLemmas.{passed_on}
use Rattle.shader_json_declarations.proofs.InnerLemmas.{of_binding_array}
use Rattle.shader_json_declarations.proofs.types.binding_array.Goals as goal

pub returns-in_err-base-clause-accepts : goal.returns-in_err-base-clause-accepts
returns-in_err-base-clause-accepts c = λ x u. passed_on _ _ c.from_residual.ensures.1 (of_binding_array _ x c.in_err-base.ensures.accepts u)
