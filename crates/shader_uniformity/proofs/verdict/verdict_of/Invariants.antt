use Rattle.std.proofs.Common.{◌≡◌, drop}
use Rattle.shader_uniformity.specs.Verdict.{verdict_from}
use Rattle.shader_uniformity.proofs.verdict.verdict_of.Given as goal

abbrev pub invariant-loop-rules : goal.invariant-loop-rules
invariant-loop-rules l = record {
  count : l.index ≡ l.rules-index;
  rest : verdict_from l.index l.faulty (drop l.rules-index l.known) ≡ verdict_from 0 l.faulty l.known;
}
