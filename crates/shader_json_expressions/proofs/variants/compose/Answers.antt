use Rattle.std.proofs.Common.{codes, refl}
use Rattle.shader_ir.specs.declared.expression.Expression.TheVariants as e
use Rattle.shader_json_reader.proofs.AnswerLemmas.{passed_on}
use Rattle.shader_json_reader.proofs.ShapeLemmas.{apart}
use Rattle.shader_json_expressions.proofs.DeterminedExpressions.{label_expression}
use Rattle.shader_json_expressions.proofs.variants.compose.Goals as goal

pub returns-in_err-ty-clause-accepts : goal.returns-in_err-ty-clause-accepts
returns-in_err-ty-clause-accepts c (e.Compose ty components) u =
    passed_on _ _ c.from_residual.ensures.1 (c.in_err-ty.ensures.accepts (ty, components) u.1)
returns-in_err-ty-clause-accepts c x u = apart (codes "Compose") (label_expression x) refl u.0
