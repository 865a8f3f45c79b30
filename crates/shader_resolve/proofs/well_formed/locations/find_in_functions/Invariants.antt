use Rattle.std.proofs.Common.{◌≡◌}
use Rattle.shader_resolve.specs.LocationTests.{find_functions, find_in_function, first_within}
use Rattle.shader_resolve.specs.FaultyLocations.{in_function}
use Rattle.shader_resolve.proofs.well_formed.locations.find_in_functions.Given as goal

abbrev pub invariant-loop-handle : goal.invariant-loop-handle
invariant-loop-handle l =
    (goal.iterator-loop-handle).can_next l.handle-iterator
    × (goal.iterator-loop-handle).is_finite l.handle-iterator
    × (first_within in_function (find_in_function l.«module») l.handle-iterator ≡ find_functions l.«module»)
