use Rattle.std.proofs.Common.{◌≡◌}
use Rattle.shader_resolve.specs.ModuleTests.{check_expression, in_arena, in_entries}
use Rattle.shader_resolve.proofs.well_formed.expressions.check_expressions.Given as goal

abbrev pub invariant-loop-handle : goal.invariant-loop-handle
invariant-loop-handle l =
    (goal.iterator-loop-handle).can_next l.handle-iterator
    × (goal.iterator-loop-handle).is_finite l.handle-iterator
    × (in_entries (check_expression l.«module» l.bounds) l.handle-iterator ≡ in_arena (check_expression l.«module» l.bounds) l.expressions)
