use Rattle.std.proofs.Common.{string_bytes}
use Rattle.shader_report_bounds.specs.Lines.{AreTexts, IsLocalItem}
use Rattle.shader_report_bounds.proofs.listed.local_items.Given as goal

abbrev pub invariant-loop-index : goal.invariant-loop-index
invariant-loop-index l = AreTexts (IsLocalItem l.«module» l.positions) l.index (string_bytes l.text)
