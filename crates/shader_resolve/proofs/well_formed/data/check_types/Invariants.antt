use Rattle.std.proofs.Common.{◌≡◌}
use Rattle.shader_resolve.specs.ModuleTests.{check_type, in_arena, in_entries}
use Rattle.shader_resolve.proofs.well_formed.data.check_types.Given as goal

abbrev pub invariant-loop-handle : goal.invariant-loop-handle
invariant-loop-handle l =
    (goal.iterator-loop-handle).can_next l.handle-iterator
    × (goal.iterator-loop-handle).is_finite l.handle-iterator
    × (in_entries (λ position type. check_type l.«module» position type.inner) l.handle-iterator
    ≡ in_arena (λ position type. check_type l.«module» position type.inner) l.«module».types)
