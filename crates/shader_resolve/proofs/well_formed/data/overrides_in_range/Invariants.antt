use Rattle.std.proofs.Common.{◌≡◌}
use Rattle.shader_resolve.specs.ModuleTests.{every, every_entry, override_in_range}
use Rattle.shader_resolve.proofs.well_formed.data.overrides_in_range.Given as goal

abbrev pub invariant-loop-value : goal.invariant-loop-value
invariant-loop-value l =
    (goal.iterator-loop-value).can_next l.value-iterator
    × (goal.iterator-loop-value).is_finite l.value-iterator
    × (every_entry (λ position override. override_in_range l.«module» override) l.value-iterator
    ≡ every (λ position override. override_in_range l.«module» override) l.«module».overrides)
