use Rattle.std.proofs.Common.{codes, refl}
use Rattle.shader_ir.specs.declared.expression.Expression.TheVariants as e
use Rattle.shader_json_reader.proofs.AnswerLemmas.{passed_on}
use Rattle.shader_json_reader.proofs.ShapeLemmas.{apart}
use Rattle.shader_json_expressions.proofs.DeterminedExpressions.{label_expression}
use Rattle.shader_json_expressions.proofs.variants.splat.Goals as goal

pub returns-in_err-size-clause-accepts : goal.returns-in_err-size-clause-accepts
returns-in_err-size-clause-accepts c (e.Splat size value) u =
    passed_on _ _ c.from_residual.ensures.1 (c.in_err-size.ensures.accepts (size, value) u.1)
returns-in_err-size-clause-accepts c x u = apart (codes "Splat") (label_expression x) refl u.0
