use Rattle.std.proofs.Common.{◌≡◌, ◌≤◌}
use Rattle.report_summary.specs.Resources.{resources_among}
use Rattle.report_summary.proofs.resources.resources_among.Given as goal

abbrev pub invariant-loop-index : goal.invariant-loop-index
invariant-loop-index l = record {
  within : l.count ≤ l.index;
  counted : l.count ≡ resources_among l.infos.entry_points l.bindings l.index;
}
