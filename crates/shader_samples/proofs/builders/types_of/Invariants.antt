use Rattle.std.proofs.Common.{◌≡◌, ◌+◌, ◌≤◌, [], length}
use Rattle.std.specs.Vec.Iter.{into_iter_items}
use Rattle.shader_arena.specs.Positions.{most_items}
use Rattle.shader_samples.specs.Types.{types_after}
use Rattle.shader_samples.proofs.builders.types_of.Given as goal

-- the types so far, and room for those to come
abbrev pub invariant-loop-inner : goal.invariant-loop-inner
invariant-loop-inner l =
    (goal.iterator-loop-inner).can_next l.inner-iterator ×
    (goal.iterator-loop-inner).is_finite l.inner-iterator ×
    (types_after l.types (into_iter_items l.inner-iterator) ≡ types_after [] l.fn.inners.items) ×
    (length l.types + length (into_iter_items l.inner-iterator) ≤ most_items)
