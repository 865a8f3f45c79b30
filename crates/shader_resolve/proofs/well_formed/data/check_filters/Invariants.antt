use Rattle.std.proofs.Common.{◌≡◌}
use Rattle.shader_resolve.specs.ModuleTests.{check_filter, in_arena, in_entries}
use Rattle.shader_resolve.proofs.well_formed.data.check_filters.Given as goal

abbrev pub invariant-loop-handle : goal.invariant-loop-handle
invariant-loop-handle l =
    (goal.iterator-loop-handle).can_next l.handle-iterator
    × (goal.iterator-loop-handle).is_finite l.handle-iterator
    × (in_entries (check_filter l.«module») l.handle-iterator ≡ in_arena (check_filter l.«module») l.«module».diagnostic_filters)
