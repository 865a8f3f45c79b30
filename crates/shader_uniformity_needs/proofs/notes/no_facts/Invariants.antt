use Rattle.std.proofs.Common.{◌≡◌, length}
use Rattle.shader_uniformity_needs.proofs.NoteLemmas.{AreEmpty}
use Rattle.shader_uniformity_needs.proofs.notes.no_facts.Given as goal

abbrev pub invariant-loop : goal.invariant-loop
invariant-loop l = record {
  long : length l.begun.items ≡ l.counter;
  empty : AreEmpty l.begun.items;
}
