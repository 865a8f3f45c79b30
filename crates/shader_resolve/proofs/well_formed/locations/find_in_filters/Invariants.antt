use Rattle.std.proofs.Common.{◌≡◌}
use Rattle.shader_resolve.specs.ModuleTests.{check_filter}
use Rattle.shader_resolve.specs.LocationTests.{find_filters, first_in}
use Rattle.shader_resolve.specs.declared.well_formed.locations.ModuleLocation.TheVariants as location
use Rattle.shader_resolve.proofs.well_formed.locations.find_in_filters.Given as goal

abbrev pub invariant-loop-handle : goal.invariant-loop-handle
invariant-loop-handle l =
    (goal.iterator-loop-handle).can_next l.handle-iterator
    × (goal.iterator-loop-handle).is_finite l.handle-iterator
    × (first_in location.DiagnosticFilter (check_filter l.«module») l.handle-iterator ≡ find_filters l.«module»)
