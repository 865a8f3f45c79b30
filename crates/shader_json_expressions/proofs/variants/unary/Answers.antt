use Rattle.std.proofs.Common.{codes, refl}
use Rattle.shader_ir.specs.declared.expression.Expression.TheVariants as e
use Rattle.shader_json_reader.proofs.AnswerLemmas.{passed_on}
use Rattle.shader_json_reader.proofs.ShapeLemmas.{apart}
use Rattle.shader_json_expressions.proofs.DeterminedExpressions.{label_expression}
use Rattle.shader_json_expressions.proofs.variants.unary.Goals as goal

pub returns-in_err-op-clause-accepts : goal.returns-in_err-op-clause-accepts
returns-in_err-op-clause-accepts c (e.Unary op expr) u =
    passed_on _ _ c.from_residual.ensures.1 (c.in_err-op.ensures.accepts (record { 0 = op }, expr) u.1)
returns-in_err-op-clause-accepts c x u = apart (codes "Unary") (label_expression x) refl u.0
