use Rattle.std.proofs.Common.{codes, refl}
use Rattle.shader_ir.specs.declared.expression.Expression.TheVariants as e
use Rattle.shader_json_reader.proofs.AnswerLemmas.{of_members, passed_on}
use Rattle.shader_json_reader.proofs.ShapeLemmas.{apart}
use Rattle.shader_json_expressions.proofs.DeterminedExpressions.{label_expression}
use Rattle.shader_json_expressions.proofs.variants.conversion.Goals as goal

pub returns-in_err-expr-clause-accepts : goal.returns-in_err-expr-clause-accepts
returns-in_err-expr-clause-accepts c (e.As expr kind convert) u =
    let f = of_members _ _ _ c.in_ok-fields.ensures.reads u.1 in
    passed_on _ _ c.from_residual-in_err-expr.ensures.1 (c.in_err-expr.ensures.accepts (expr, kind) (f.0, f.1))
returns-in_err-expr-clause-accepts c x u = apart (codes "As") (label_expression x) refl u.0

pub returns-in_err-optional-clause-accepts : goal.returns-in_err-optional-clause-accepts
returns-in_err-optional-clause-accepts c (e.As expr kind convert) u =
    let f = of_members _ _ _ c.in_ok-fields.ensures.reads u.1 in
    passed_on _ _ c.from_residual-in_err-optional.ensures.1 (c.in_err-optional.ensures.accepts convert f.2)
returns-in_err-optional-clause-accepts c x u = apart (codes "As") (label_expression x) refl u.0
