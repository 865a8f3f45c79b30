use Rattle.std.proofs.Common.{◌≡◌}
use Rattle.shader_resolve.specs.ModuleTests.{check_type}
use Rattle.shader_resolve.specs.LocationTests.{find_types, first_in}
use Rattle.shader_resolve.specs.declared.well_formed.locations.ModuleLocation.TheVariants as location
use Rattle.shader_resolve.proofs.well_formed.locations.find_in_types.Given as goal

abbrev pub invariant-loop-handle : goal.invariant-loop-handle
invariant-loop-handle l =
    (goal.iterator-loop-handle).can_next l.handle-iterator
    × (goal.iterator-loop-handle).is_finite l.handle-iterator
    × (first_in location.Type (λ handle type. check_type l.«module» handle type.inner) l.handle-iterator ≡ find_types l.«module»)
