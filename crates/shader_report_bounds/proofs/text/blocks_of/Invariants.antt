use Rattle.std.proofs.Common.{string_bytes}
use Rattle.shader_report_bounds.specs.Lines.{AreTexts}
use Rattle.shader_report_bounds.specs.Texts.{IsOnPlace}
use Rattle.shader_report_bounds.proofs.text.blocks_of.Given as goal

abbrev pub invariant-loop-index : goal.invariant-loop-index
invariant-loop-index l = AreTexts (IsOnPlace l.«module» l.is_entry_point l.bounds) l.index (string_bytes l.text)
