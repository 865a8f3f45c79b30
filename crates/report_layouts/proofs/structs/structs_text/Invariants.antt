use Rattle.std.proofs.Common.{string_bytes}
use Rattle.report_layouts.specs.Structs.{AreStructs}
use Rattle.report_layouts.proofs.structs.structs_text.Given as goal

abbrev pub invariant-loop-position : goal.invariant-loop-position
invariant-loop-position l = AreStructs l.module l.layouts l.is_drawn l.position (string_bytes l.text)
