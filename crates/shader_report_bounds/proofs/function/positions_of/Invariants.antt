use Rattle.std.proofs.Common.{◌≡◌, ◌++◌}
use Rattle.shader_arena.specs.Positions.{members}
use Rattle.shader_report_bounds.proofs.function.positions_of.Given as goal

abbrev pub invariant-loop-handle : goal.invariant-loop-handle
invariant-loop-handle l =
    (goal.iterator-loop-handle).can_next l.handle-iterator
    × (goal.iterator-loop-handle).is_finite l.handle-iterator
    × (l.positions.items ++ l.handle-iterator ≡ members l.set)
