use Rattle.std.proofs.Common.{length, map}
use Rattle.std.specs.List.{range_with_len}
use Rattle.shader_info.specs.declared.error.AnalysisLocation.TheVariants.{EntryPoint, Function}
use Rattle.sample_reports.proofs.LocationLemmas.{one_more}
use Rattle.sample_reports.proofs.building.add_entry_points.Goals as goal

pub loop-index-preserved : goal.loop-index-preserved
loop-index-preserved c =
    one_more c.args.infos.now (map Function (range_with_len 0 (length c.args.module.now.functions))) EntryPoint c.loop-index.index
    c.get_entry_point.result.now
    c.loop-index.reports.items c.add_report.new.reports.items c.loop-index.invariant c.get_entry_point.ensures c.in_ok-add_report.ensures
