use Rattle.std.proofs.Common.{◌≡◌, ◌++◌}
use Rattle.std.specs.List.{flat_map}
use Rattle.shader_arena.specs.Positions.{positions_between}
use Rattle.shader_uniformity_needs.specs.Needs.{emit_needs}
use Rattle.shader_uniformity_needs.proofs.demands.add_emits.Given as goal

abbrev pub invariant-loop-handle : goal.invariant-loop-handle
invariant-loop-handle l =
    (goal.iterator-loop-handle).can_next l.handle-iterator
    × (goal.iterator-loop-handle).is_finite l.handle-iterator
    × (l.needs.items ++ flat_map (emit_needs l.scope.expressions.now l.scope.severe l.position) l.handle-iterator
    ≡ l.fn.needs.items ++ flat_map (emit_needs l.scope.expressions.now l.scope.severe l.position) (positions_between l.range.0 l.range.1))
