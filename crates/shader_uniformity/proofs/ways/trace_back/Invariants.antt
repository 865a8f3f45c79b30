use Rattle.std.proofs.Common.{◌<◌, length}
use Rattle.shader_uniformity.proofs.WayLemmas.{IsTail}
use Rattle.shader_uniformity.proofs.ways.trace_back.Given as goal

abbrev pub invariant-loop-place : goal.invariant-loop-place
invariant-loop-place l = record {
  inside : l.place < length l.needs;
  tail : IsTail l.needs l.fn.index l.place l.trace.items;
}

abbrev pub decreases-loop-place : goal.decreases-loop-place
decreases-loop-place l = l.place
