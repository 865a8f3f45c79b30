use Rattle.std.proofs.Common.{◌+◌, sym, subst, List, take, [], ◌++◌, ◌∷◌}
use Rattle.std.proofs.lemmas.List.{take_more}
use Rattle.report_columns.specs.Columns.{Row}
use Rattle.shader_report_bounds.specs.Lines.{AreCheckRows}
use Rattle.shader_report_bounds.specs.declared.accesses.AccessCheck.{AccessCheck}
use Rattle.shader_report_bounds.proofs.RowLemmas.{one_more}
use Rattle.shader_report_bounds.proofs.checks.check_rows.Goals as goal

pub loop-check-preserved : goal.loop-check-preserved
loop-check-preserved c =
    let m = c.args.module.now in
    let f = c.args.function.now in
    let index = c.loop-check.check-index in
    let all = c.args.checks.now in
    let rows = c.loop-check.rows.items in
    let row = c.in_ok-row.row in
    let more = one_more m f (take index all) _ rows row c.loop-check.invariant c.in_ok-row.ensures in
    subst (λ (v : List Row). AreCheckRows m f (take (index + 1) all) v) (sym c.in_ok-push.ensures.items)
    (subst (λ (checks : List AccessCheck). AreCheckRows m f checks (rows ++ row ∷ []))
    (sym (take_more all index _ c.loop-check-test.true)) more)
