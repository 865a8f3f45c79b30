use Rattle.std.proofs.Common.{◌≡◌, drop, fold}
use Rattle.report_columns.specs.Columns.{wider, width_of}
use Rattle.report_columns.proofs.columns.width_of.Given as goal

abbrev pub invariant-loop-row : goal.invariant-loop-row
invariant-loop-row l = fold wider l.width (drop l.row-index l.rows) ≡ width_of l.rows
