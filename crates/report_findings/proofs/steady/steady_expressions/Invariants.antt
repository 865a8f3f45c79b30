use Rattle.std.proofs.Common.{◌≡◌}
use Rattle.report_findings.specs.Steady.{steady_after, steady_table}
use Rattle.shader_uniformity.specs.Places.{places}
use Rattle.report_findings.proofs.steady.steady_expressions.Given as goal

abbrev pub invariant-loop-handle : goal.invariant-loop-handle
invariant-loop-handle l =
    (goal.iterator-loop-handle).can_next l.handle-iterator
    × (goal.iterator-loop-handle).is_finite l.handle-iterator
    × (l.places.items ≡ places l.«module» l.function.expressions)
    × (steady_after l.«module» l.function l.steady.items l.handle-iterator ≡ steady_table l.«module» l.function)
