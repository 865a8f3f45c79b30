use Rattle.std.proofs.Common.{◌≡◌, drop}
use Rattle.shader_uniformity.specs.Verdict.{point_from}
use Rattle.shader_uniformity.proofs.verdict.point_verdict.Given as goal

abbrev pub invariant-loop-fault : goal.invariant-loop-fault
invariant-loop-fault l = record {
  count : l.index ≡ l.fault-index;
  rest : point_from l.index (drop l.fault-index l.faulty) ≡ point_from 0 l.faulty;
}
