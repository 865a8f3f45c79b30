use Rattle.std.proofs.Common.{◌≡◌, false, take}
use Rattle.report_summary.specs.Resources.{is_used}
use Rattle.report_summary.proofs.resources.is_used.Given as goal

abbrev pub invariant-loop-point : goal.invariant-loop-point
invariant-loop-point l = is_used (take l.point l.infos.entry_points) l.index ≡ false
