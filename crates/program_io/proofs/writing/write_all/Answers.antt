use Rattle.std.proofs.Common.{rules, arith}
use Rattle.program_io.proofs.Appending.{appends_more}
use Rattle.program_io.proofs.writing.write_all.Goals as goal

pub loop-written-preserved : goal.loop-written-preserved
loop-written-preserved g c = record {
  within = search rules;
  bytes = appends_more _ _ _ _ _ _ c.loop-written.invariant.bytes c.in_ok-written.ensures.bytes;
  failed = grind arith;
}
