use Rattle.std.proofs.Common.{◌≡◌}
use Rattle.shader_uniformity_trace.specs.Reasons.{first_reason}
use Rattle.shader_uniformity_trace.proofs.reasons.first_reason.Given as goal

abbrev pub invariant-loop-operand : goal.invariant-loop-operand
invariant-loop-operand l =
    (goal.iterator-loop-operand).can_next l.operand-iterator
    × (goal.iterator-loop-operand).is_finite l.operand-iterator
    × (first_reason l.location l.reasons l.operand-iterator ≡ first_reason l.location l.reasons l.fn.operands)
