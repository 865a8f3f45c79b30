use Rattle.std.proofs.Common.{◌≡◌}
use Rattle.shader_arena.specs.Positions.{items_of}
use Rattle.shader_uniformity.specs.Places.{places, places_after}
use Rattle.shader_uniformity.proofs.places.places.Given as goal

abbrev pub invariant-loop-expression : goal.invariant-loop-expression
invariant-loop-expression l =
    (goal.iterator-loop-expression).can_next l.expression-iterator
    × (goal.iterator-loop-expression).is_finite l.expression-iterator
    × (places_after l.«module» l.places.items (items_of l.expression-iterator) ≡ places l.«module» l.expressions)
