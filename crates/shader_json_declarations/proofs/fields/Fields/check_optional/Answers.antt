use Rattle.shader_json_reader.proofs.AnswerLemmas.{passed_on}
use Rattle.shader_json_declarations.proofs.fields.Fields.check_optional.Goals as goal

pub returns-in_err-optional-clause-accepts : goal.returns-in_err-optional-clause-accepts
returns-in_err-optional-clause-accepts g c = λ h. passed_on _ _ c.from_residual.ensures.1 (c.in_err-optional.ensures.accepts h.0 h.1)
