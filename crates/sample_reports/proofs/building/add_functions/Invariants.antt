use Rattle.std.proofs.Common.{[]}
use Rattle.shader_info.specs.declared.error.AnalysisLocation.TheVariants.{Function}
use Rattle.sample_reports.specs.Reporting.{AreReportsOf}
use Rattle.sample_reports.proofs.LocationLemmas.{locations_to}
use Rattle.sample_reports.proofs.building.add_functions.Given as goal

abbrev pub invariant-loop-index : goal.invariant-loop-index
invariant-loop-index l = AreReportsOf l.infos (locations_to [] Function l.index) l.reports.items
