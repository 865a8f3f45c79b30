use Rattle.std.proofs.Common.{codes, refl}
use Rattle.shader_ir.specs.declared.expression.Expression.TheVariants as e
use Rattle.shader_json_reader.proofs.AnswerLemmas.{passed_on}
use Rattle.shader_json_reader.proofs.ShapeLemmas.{apart}
use Rattle.shader_json_expressions.proofs.DeterminedExpressions.{label_expression}
use Rattle.shader_json_expressions.proofs.variants.derivative.Goals as goal

pub returns-in_err-axis-clause-accepts : goal.returns-in_err-axis-clause-accepts
returns-in_err-axis-clause-accepts c (e.Derivative axis ctrl expr) u =
    passed_on _ _ c.from_residual.ensures.1 (c.in_err-axis.ensures.accepts (record { 0 = axis }, record { 0 = ctrl }, expr) u.1)
returns-in_err-axis-clause-accepts c x u = apart (codes "Derivative") (label_expression x) refl u.0
