use Rattle.std.proofs.Common.{codes, refl}
use Rattle.json.specs.Value.{value_view}
use Rattle.shader_ir.specs.declared.expression.Expression.TheVariants as e
use Rattle.shader_json_reader.proofs.AnswerLemmas.{passed_on}
use Rattle.shader_json_reader.proofs.ShapeLemmas.{apart}
use Rattle.shader_json_expressions.proofs.DeterminedExpressions.{label_expression}
use Rattle.shader_json_expressions.proofs.AnswerLemmas.{with_parts}
use Rattle.shader_json_expressions.proofs.variants.swizzle.Goals as goal

pub returns-in_err-pattern-clause-accepts : goal.returns-in_err-pattern-clause-accepts
returns-in_err-pattern-clause-accepts c (e.Swizzle size vector pattern) u =
    passed_on _ _ c.from_residual.ensures.1 (c.in_err-pattern.ensures.accepts (record { 0 = pattern }, size, vector)
    (with_parts (value_view c.args.payload.value.now) (λ ms f. (f.2, f.0, f.1)) u.1))
returns-in_err-pattern-clause-accepts c x u = apart (codes "Swizzle") (label_expression x) refl u.0
