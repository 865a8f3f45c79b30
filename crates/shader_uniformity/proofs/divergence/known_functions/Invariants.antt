use Rattle.shader_uniformity.specs.Fault.{AreKnown}
use Rattle.shader_uniformity.proofs.FunctionsLemmas.{IsLeft}
use Rattle.shader_uniformity.proofs.divergence.known_functions.Given as goal

abbrev pub invariant-loop-function : goal.invariant-loop-function
invariant-loop-function l = record {
  can_next : (goal.iterator-loop-function).can_next l.function-iterator;
  is_finite : (goal.iterator-loop-function).is_finite l.function-iterator;
  known : AreKnown l.«module» l.known.items;
  left : IsLeft l.«module».functions l.function-iterator l.known.items;
}
