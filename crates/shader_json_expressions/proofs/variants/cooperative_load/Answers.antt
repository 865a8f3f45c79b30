use Rattle.std.proofs.Common.{codes, refl}
use Rattle.shader_ir.specs.declared.expression.Expression.TheVariants as e
use Rattle.shader_json_reader.proofs.AnswerLemmas.{of_members, passed_on}
use Rattle.shader_json_reader.proofs.ShapeLemmas.{apart}
use Rattle.shader_json_expressions.proofs.DeterminedExpressions.{label_expression}
use Rattle.shader_json_expressions.proofs.variants.cooperative_load.Goals as goal

pub returns-in_err-tile-clause-accepts : goal.returns-in_err-tile-clause-accepts
returns-in_err-tile-clause-accepts c (e.CooperativeLoad columns rows role tile) u =
    let f = of_members _ _ _ c.in_ok-fields.ensures.reads u.1 in
    passed_on _ _ c.from_residual-in_err-tile.ensures.1 (c.in_err-tile.ensures.accepts (record { 0 = tile }) f.3)
returns-in_err-tile-clause-accepts c x u = apart (codes "CooperativeLoad") (label_expression x) refl u.0

pub returns-in_err-columns-clause-accepts : goal.returns-in_err-columns-clause-accepts
returns-in_err-columns-clause-accepts c (e.CooperativeLoad columns rows role tile) u =
    let f = of_members _ _ _ c.in_ok-fields.ensures.reads u.1 in
    passed_on _ _ c.from_residual-in_err-columns.ensures.1 (c.in_err-columns.ensures.accepts (columns, rows, role) (f.0, f.1, f.2))
returns-in_err-columns-clause-accepts c x u = apart (codes "CooperativeLoad") (label_expression x) refl u.0
