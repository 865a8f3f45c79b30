use Rattle.std.proofs.Common.{◌≡◌}
use Rattle.shader_resolve.specs.ModuleTests.{constant_in_range}
use Rattle.shader_resolve.specs.LocationTests.{find_constants, first_in, handles_tested}
use Rattle.shader_resolve.specs.declared.well_formed.locations.ModuleLocation.TheVariants as location
use Rattle.shader_resolve.proofs.well_formed.locations.find_in_constants.Given as goal

abbrev pub invariant-loop-handle : goal.invariant-loop-handle
invariant-loop-handle l =
    (goal.iterator-loop-handle).can_next l.handle-iterator
    × (goal.iterator-loop-handle).is_finite l.handle-iterator
    × (first_in location.Constant (λ handle constant. handles_tested (constant_in_range l.«module» constant)) l.handle-iterator ≡
    find_constants l.«module»)
