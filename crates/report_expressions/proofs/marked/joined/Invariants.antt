use Rattle.std.proofs.Common.{◌≤◌, length, string_bytes, take}
use Rattle.std.specs.Str.{chars}
use Rattle.report_expressions.specs.Texts.{AreTexts}
use Rattle.report_expressions.proofs.marked.joined.Given as goal

abbrev pub invariant-loop-piece : goal.invariant-loop-piece
invariant-loop-piece l =
    AreTexts l.source (take l.piece-index l.pieces) (string_bytes l.text)
    × (l.begin ≤ l.end)
    × (l.end ≤ l.at)
    × (l.at ≤ length (chars (string_bytes l.text)))
    × (l.at ≤ 18446744073709551615)
