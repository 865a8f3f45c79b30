use Rattle.std.proofs.Common.{codes, refl}
use Rattle.shader_ir.specs.declared.expression.Expression.TheVariants as e
use Rattle.shader_json_reader.proofs.AnswerLemmas.{passed_on}
use Rattle.shader_json_reader.proofs.ShapeLemmas.{apart}
use Rattle.shader_json_expressions.proofs.DeterminedExpressions.{label_expression}
use Rattle.shader_json_expressions.proofs.variants.literal.Goals as goal

pub returns-in_err-literal-clause-accepts : goal.returns-in_err-literal-clause-accepts
returns-in_err-literal-clause-accepts c (e.Literal literal) u =
    passed_on _ _ c.from_residual.ensures.1 (c.in_err-literal.ensures.accepts (record { 0 = literal }) u.1)
returns-in_err-literal-clause-accepts c x u = apart (codes "Literal") (label_expression x) refl u.0
