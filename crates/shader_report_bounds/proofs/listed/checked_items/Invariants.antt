use Rattle.std.proofs.Common.{string_bytes}
use Rattle.shader_report_bounds.specs.Lines.{AreTexts, IsCheckedItem}
use Rattle.shader_report_bounds.proofs.listed.checked_items.Given as goal

abbrev pub invariant-loop-index : goal.invariant-loop-index
invariant-loop-index l = AreTexts (IsCheckedItem l.«module» l.function l.positions) l.index (string_bytes l.text)
