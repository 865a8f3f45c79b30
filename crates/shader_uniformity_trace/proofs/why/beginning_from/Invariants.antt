use Rattle.std.proofs.Common.{◌≡◌, length}
use Rattle.shader_uniformity_trace.specs.Chains.{HasOriginAt, IsChain}
use Rattle.shader_uniformity_trace.proofs.why.beginning_from.Given as goal

-- the links so far are a chain to the last, which has an origin
abbrev pub invariant-loop-count : goal.invariant-loop-count
invariant-loop-count l = record {
  chain : IsChain l.reasons l.start l.beginning.items l.last;
  count : length l.beginning.items ≡ l._count;
  origin : HasOriginAt l.reasons l.last;
}
