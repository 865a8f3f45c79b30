use Rattle.std.proofs.Common.{◌≡◌}
use Rattle.shader_resolve.specs.ModuleTests.{check_expression}
use Rattle.shader_resolve.specs.LocationTests.{find_global_expressions, first_in}
use Rattle.shader_resolve.specs.declared.well_formed.locations.ModuleLocation.TheVariants as location
use Rattle.shader_resolve.proofs.well_formed.locations.find_in_global_expressions.Given as goal

abbrev pub invariant-loop-handle : goal.invariant-loop-handle
invariant-loop-handle l =
    (goal.iterator-loop-handle).can_next l.handle-iterator
    × (goal.iterator-loop-handle).is_finite l.handle-iterator
    × (first_in location.GlobalExpression (check_expression l.«module» l.bounds) l.handle-iterator ≡ find_global_expressions l.«module»)
