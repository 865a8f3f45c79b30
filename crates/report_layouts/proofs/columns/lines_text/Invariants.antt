use Rattle.std.proofs.Common.{◌≡◌, ◌++◌, drop, string_bytes}
use Rattle.report_layouts.specs.Columns.{lines_text}
use Rattle.report_layouts.proofs.columns.lines_text.Given as goal

abbrev pub invariant-loop-line : goal.invariant-loop-line
invariant-loop-line l = string_bytes l.text ++ lines_text l.widths (drop l.line-index l.lines) ≡ lines_text l.widths l.lines
