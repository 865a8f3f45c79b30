use Rattle.std.proofs.Common.{◌≡◌, ◌-◌, ◌≤◌, length, take}
use Rattle.std.specs.Io.KnownBytes.{Appends}
use Rattle.program_io.proofs.writing.write_all.Given as goal

abbrev pub invariant-loop-written : goal.invariant-loop-written
invariant-loop-written g l = record {
  within : l.written ≤ length l.text;
  bytes : Appends (g.W.Sink.contents l.fn.writer) (g.W.Sink.contents l.writer) (take l.written l.text);
  failed : g.W.Sink.has_failed l.writer ≡ g.W.Sink.has_failed l.fn.writer;
}

abbrev pub decreases-loop-written : goal.decreases-loop-written
decreases-loop-written g l = length l.text - l.written
