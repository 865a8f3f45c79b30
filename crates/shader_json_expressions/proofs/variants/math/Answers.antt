use Rattle.std.proofs.Common.{codes, refl}
use Rattle.shader_ir.specs.declared.expression.Expression.TheVariants as e
use Rattle.shader_json_reader.proofs.AnswerLemmas.{of_members, passed_on}
use Rattle.shader_json_reader.proofs.ShapeLemmas.{apart}
use Rattle.shader_json_expressions.proofs.DeterminedExpressions.{label_expression}
use Rattle.shader_json_expressions.proofs.variants.math.Goals as goal

pub returns-in_err-fun-clause-accepts : goal.returns-in_err-fun-clause-accepts
returns-in_err-fun-clause-accepts c (e.Math fun arg arg1 arg2 arg3) u =
    let f = of_members _ _ _ c.in_ok-fields.ensures.reads u.1 in
    passed_on _ _ c.from_residual-in_err-fun.ensures.1 (c.in_err-fun.ensures.accepts (record { 0 = fun }, arg) (f.0, f.1))
returns-in_err-fun-clause-accepts c x u = apart (codes "Math") (label_expression x) refl u.0

pub returns-in_err-optional-clause-accepts : goal.returns-in_err-optional-clause-accepts
returns-in_err-optional-clause-accepts c (e.Math fun arg arg1 arg2 arg3) u =
    let f = of_members _ _ _ c.in_ok-fields.ensures.reads u.1 in
    passed_on _ _ c.from_residual-in_err-optional.ensures.1 (c.in_err-optional.ensures.accepts arg1 f.2)
returns-in_err-optional-clause-accepts c x u = apart (codes "Math") (label_expression x) refl u.0

pub returns-in_err-optional-2-clause-accepts : goal.returns-in_err-optional-2-clause-accepts
returns-in_err-optional-2-clause-accepts c (e.Math fun arg arg1 arg2 arg3) u =
    let f = of_members _ _ _ c.in_ok-fields.ensures.reads u.1 in
    passed_on _ _ c.from_residual-in_err-optional-2.ensures.1 (c.in_err-optional-2.ensures.accepts arg2 f.3)
returns-in_err-optional-2-clause-accepts c x u = apart (codes "Math") (label_expression x) refl u.0

pub returns-in_err-optional-3-clause-accepts : goal.returns-in_err-optional-3-clause-accepts
returns-in_err-optional-3-clause-accepts c (e.Math fun arg arg1 arg2 arg3) u =
    let f = of_members _ _ _ c.in_ok-fields.ensures.reads u.1 in
    passed_on _ _ c.from_residual-in_err-optional-3.ensures.1 (c.in_err-optional-3.ensures.accepts arg3 f.4)
returns-in_err-optional-3-clause-accepts c x u = apart (codes "Math") (label_expression x) refl u.0
