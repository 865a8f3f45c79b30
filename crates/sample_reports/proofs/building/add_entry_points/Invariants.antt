use Rattle.std.proofs.Common.{length, map}
use Rattle.std.specs.List.{range_with_len}
use Rattle.shader_info.specs.declared.error.AnalysisLocation.TheVariants.{EntryPoint, Function}
use Rattle.sample_reports.specs.Reporting.{AreReportsOf}
use Rattle.sample_reports.proofs.LocationLemmas.{locations_to}
use Rattle.sample_reports.proofs.building.add_entry_points.Given as goal

abbrev pub invariant-loop-index : goal.invariant-loop-index
invariant-loop-index l =
    AreReportsOf l.infos (locations_to (map Function (range_with_len 0 (length l.«module».functions))) EntryPoint l.index) l.reports.items
