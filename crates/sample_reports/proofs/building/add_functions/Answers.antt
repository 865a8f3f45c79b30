use Rattle.std.proofs.Common.{◌≡◌, [], Some, slice_get, subst}
use Rattle.shader_info.specs.declared.error.AnalysisLocation.TheVariants.{Function}
use Rattle.sample_reports.specs.Reporting.{AddsReport}
use Rattle.sample_reports.proofs.LocationLemmas.{one_more}
use Rattle.sample_reports.proofs.building.add_functions.Goals as goal

pub loop-index-preserved : goal.loop-index-preserved
loop-index-preserved c =
    let infos = c.args.infos.now in
    let info = c.index.result.now in
    let old = c.loop-index.reports.items in
    let new = c.add_report.new.reports.items in
    let is : c.from_index-handle.result ≡ c.loop-index.index = c.from_index-handle.ensures in
    one_more infos [] Function c.loop-index.index info old new c.loop-index.invariant
    (subst (λ i. slice_get infos.functions i ≡ Some info) is c.index.ensures)
    (subst (λ i. AddsReport (Function i) info old new) is c.in_ok-add_report.ensures)
