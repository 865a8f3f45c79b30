use Rattle.std.proofs.Common.{Some}
use Rattle.shader_json_reader.proofs.AnswerLemmas.{passed_on}
use Rattle.shader_json_declarations.proofs.fields.Fields.member.Goals as goal

pub returns-in_err-member-clause-accepts : goal.returns-in_err-member-clause-accepts
returns-in_err-member-clause-accepts c = λ x h. passed_on _ _ c.from_residual.ensures.1 (c.in_err-member.ensures.accepts (Some x) h)
