use Rattle.std.proofs.Common.{take}
use Rattle.std.specs.List.{flat_map}
use Rattle.std.specs.Fmt.{HasWritten, IsPlainFormatter}
use Rattle.report_json.specs.Flags.{name_after_bar, rows_of}
use Rattle.report_json.proofs.flags.LaterTextDisplay.fmt.Given as goal

abbrev pub invariant-loop-name : goal.invariant-loop-name
invariant-loop-name g l =
    IsPlainFormatter l.initial.f → HasWritten g.W.Write.write_str_gives l.initial.f
    (flat_map (name_after_bar l.self.bits) (rows_of (take l.name-index l.self.table.now))) l.f
