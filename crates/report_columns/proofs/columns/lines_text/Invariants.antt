use Rattle.std.proofs.Common.{◌≡◌, ◌++◌, drop, string_bytes}
use Rattle.report_columns.specs.Columns.{lines_text}
use Rattle.report_columns.proofs.columns.lines_text.Given as goal

abbrev pub invariant-loop-row : goal.invariant-loop-row
invariant-loop-row l = string_bytes l.text ++ lines_text l.width (drop l.row-index l.rows) ≡ lines_text l.width l.rows
