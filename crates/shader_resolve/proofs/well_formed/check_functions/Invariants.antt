use Rattle.std.proofs.Common.{◌≡◌}
use Rattle.shader_resolve.specs.ModuleTests.{check_function, in_arena, in_entries}
use Rattle.shader_resolve.proofs.well_formed.check_functions.Given as goal

abbrev pub invariant-loop-handle : goal.invariant-loop-handle
invariant-loop-handle l =
    (goal.iterator-loop-handle).can_next l.handle-iterator
    × (goal.iterator-loop-handle).is_finite l.handle-iterator
    × (in_entries (check_function l.«module») l.handle-iterator ≡ in_arena (check_function l.«module») l.«module».functions)
