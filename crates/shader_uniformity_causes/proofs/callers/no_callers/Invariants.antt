use Rattle.std.proofs.Common.{◌≡◌, length}
use Rattle.shader_uniformity_causes.proofs.PassLemmas.{AreEmpty}
use Rattle.shader_uniformity_causes.proofs.callers.no_callers.Given as goal

abbrev pub invariant-loop : goal.invariant-loop
invariant-loop l = record {
  long : length l.callers.items ≡ l.counter;
  empty : AreEmpty l.callers.items;
}
