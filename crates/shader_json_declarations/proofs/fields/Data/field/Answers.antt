use Rattle.shader_json_reader.proofs.AnswerLemmas.{of_members}
use Rattle.shader_json_declarations.proofs.fields.Data.field.Goals as goal

pub returns-clause-accepts : goal.returns-clause-accepts
returns-clause-accepts g c = λ x h. c.needed.ensures.accepts x (of_members _ _ _ c.in_ok-fields.ensures.reads h)
