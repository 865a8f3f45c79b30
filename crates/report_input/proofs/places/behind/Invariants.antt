use Rattle.std.proofs.Common.{◌≡◌, drop}
use Rattle.report_input.specs.Places.{after_all, start}
use Rattle.report_input.proofs.places.behind.Given as goal

abbrev pub invariant-loop-byte : goal.invariant-loop-byte
invariant-loop-byte l = after_all l.place (drop l.byte-index l.text) ≡ after_all start l.text
