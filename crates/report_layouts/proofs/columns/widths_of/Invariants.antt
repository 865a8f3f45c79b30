use Rattle.std.proofs.Common.{◌≡◌, drop, fold}
use Rattle.report_layouts.specs.Columns.{wider, widths_of}
use Rattle.report_layouts.proofs.columns.widths_of.Given as goal

abbrev pub invariant-loop-line : goal.invariant-loop-line
invariant-loop-line l = fold wider l.widths (drop l.line-index l.lines) ≡ widths_of l.lines
