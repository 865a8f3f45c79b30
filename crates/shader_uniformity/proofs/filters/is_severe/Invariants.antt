use Rattle.std.proofs.Common.{◌≡◌}
use Rattle.shader_arena.specs.Positions.{items_of}
use Rattle.shader_uniformity.specs.Filters.{is_severe}
use Rattle.shader_uniformity.proofs.filters.is_severe.Given as goal

abbrev pub invariant-loop-step : goal.invariant-loop-step
invariant-loop-step l =
    (goal.iterator-loop-step).can_next l._step-iterator
    × (goal.iterator-loop-step).is_finite l._step-iterator
    × (is_severe (items_of l._step-iterator) l.filters l.next ≡ is_severe l.filters l.filters l.fn.leaf)
