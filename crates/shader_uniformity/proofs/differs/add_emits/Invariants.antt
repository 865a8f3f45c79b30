use Rattle.std.proofs.Common.{◌≡◌, ◌++◌}
use Rattle.std.specs.List.{flat_map}
use Rattle.shader_arena.specs.Positions.{positions_between}
use Rattle.shader_uniformity.specs.Differs.{emit_rules}
use Rattle.shader_uniformity.proofs.differs.add_emits.Given as goal

abbrev pub invariant-loop-handle : goal.invariant-loop-handle
invariant-loop-handle l =
    (goal.iterator-loop-handle).can_next l.handle-iterator
    × (goal.iterator-loop-handle).is_finite l.handle-iterator
    × (l.rules.items ++ flat_map (emit_rules l.scope.places.now l.position l.around l.scope.severe l.scope.expressions.now)
    l.handle-iterator
    ≡ l.fn.rules.items ++ flat_map (emit_rules l.scope.places.now l.position l.around l.scope.severe l.scope.expressions.now)
    (positions_between l.range.0 l.range.1))
