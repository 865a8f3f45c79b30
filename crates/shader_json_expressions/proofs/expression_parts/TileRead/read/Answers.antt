use Rattle.shader_json_reader.proofs.AnswerLemmas.{of_members, passed_on}
use Rattle.shader_json_expressions.proofs.expression_parts.TileRead.read.Goals as goal

pub returns-in_err-pointer-clause-accepts : goal.returns-in_err-pointer-clause-accepts
returns-in_err-pointer-clause-accepts c = λ x h. passed_on _ _ c.from_residual-in_err-pointer.ensures.1
    (c.in_err-pointer.ensures.accepts (x.0.pointer, x.0.stride, x.0.row_major) (of_members _ _ _ c.in_ok-fields.ensures.reads h))
