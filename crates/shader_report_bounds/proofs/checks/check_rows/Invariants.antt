use Rattle.std.proofs.Common.{take}
use Rattle.shader_report_bounds.specs.Lines.{AreCheckRows}
use Rattle.shader_report_bounds.proofs.checks.check_rows.Given as goal

abbrev pub invariant-loop-check : goal.invariant-loop-check
invariant-loop-check l = AreCheckRows l.«module» l.function (take l.check-index l.checks) l.rows.items
