use Rattle.std.proofs.Common.{◌≡◌}
use Rattle.shader_resolve.specs.ModuleTests.{override_in_range}
use Rattle.shader_resolve.specs.LocationTests.{find_overrides, first_in, handles_tested}
use Rattle.shader_resolve.specs.declared.well_formed.locations.ModuleLocation.TheVariants as location
use Rattle.shader_resolve.proofs.well_formed.locations.find_in_overrides.Given as goal

abbrev pub invariant-loop-handle : goal.invariant-loop-handle
invariant-loop-handle l =
    (goal.iterator-loop-handle).can_next l.handle-iterator
    × (goal.iterator-loop-handle).is_finite l.handle-iterator
    × (first_in location.Override (λ handle override. handles_tested (override_in_range l.«module» override)) l.handle-iterator ≡
    find_overrides l.«module»)
