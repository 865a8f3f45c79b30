use Rattle.std.proofs.Common.{◌≡◌, ◌-◌, ◌≤◌, length, false}
use Rattle.std.specs.Io.KnownBytes.{Consumes}
use Rattle.program_io.proofs.reading.read_input.Given as goal

abbrev pub invariant-loop-input : goal.invariant-loop-input
invariant-loop-input g l = record {
  bytes : Consumes (g.R.Source.remaining l.fn.reader) (g.R.Source.remaining l.reader) l.input.items;
  works : g.R.Source.has_failed l.reader ≡ false;
  fits : length l.input.items ≤ l.limit;
}

abbrev pub decreases-loop-input : goal.decreases-loop-input
decreases-loop-input g l = l.limit - length l.input.items
