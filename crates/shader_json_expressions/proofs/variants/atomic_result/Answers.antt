use Rattle.std.proofs.Common.{codes, refl}
use Rattle.shader_ir.specs.declared.expression.Expression.TheVariants as e
use Rattle.shader_json_reader.proofs.AnswerLemmas.{passed_on}
use Rattle.shader_json_reader.proofs.ShapeLemmas.{apart}
use Rattle.shader_json_expressions.proofs.DeterminedExpressions.{label_expression}
use Rattle.shader_json_expressions.proofs.variants.atomic_result.Goals as goal

pub returns-in_err-ty-clause-accepts : goal.returns-in_err-ty-clause-accepts
returns-in_err-ty-clause-accepts c (e.AtomicResult ty comparison) u =
    passed_on _ _ c.from_residual.ensures.1 (c.in_err-ty.ensures.accepts (ty, comparison) u.1)
returns-in_err-ty-clause-accepts c x u = apart (codes "AtomicResult") (label_expression x) refl u.0
