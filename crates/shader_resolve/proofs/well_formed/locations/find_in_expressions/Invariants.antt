use Rattle.std.proofs.Common.{◌≡◌}
use Rattle.shader_resolve.specs.ModuleTests.{check_expression}
use Rattle.shader_resolve.specs.LocationTests.{find_expressions, first_in}
use Rattle.shader_resolve.specs.declared.well_formed.locations.LocationInFunction.TheVariants as part
use Rattle.shader_resolve.proofs.well_formed.locations.find_in_expressions.Given as goal

abbrev pub invariant-loop-handle : goal.invariant-loop-handle
invariant-loop-handle l =
    (goal.iterator-loop-handle).can_next l.handle-iterator
    × (goal.iterator-loop-handle).is_finite l.handle-iterator
    × (first_in part.Expression (check_expression l.«module» l.bounds) l.handle-iterator ≡ find_expressions l.«module» l.bounds
    l.expressions)
