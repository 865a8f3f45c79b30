use Rattle.std.proofs.Common.{◌≡◌, []}
use Rattle.std.specs.List.{enumerate_from}
use Rattle.shader_uniformity_trace.specs.Reasons.{reasons_after}
use Rattle.shader_uniformity_trace.proofs.reasons.reasons_of.Given as goal

abbrev pub invariant-loop-expression : goal.invariant-loop-expression
invariant-loop-expression l =
    (goal.iterator-loop-expression).can_next l.expression-iterator
    × (goal.iterator-loop-expression).is_finite l.expression-iterator
    × (reasons_after l.«module» l.traces l.location l.function l.reasons.items l.expression-iterator
    ≡ reasons_after l.«module» l.traces l.location l.function [] (enumerate_from 0 l.function.expressions))
