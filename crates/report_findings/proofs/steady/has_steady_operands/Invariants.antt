use Rattle.std.proofs.Common.{◌≡◌, map}
use Rattle.std.specs.List.{list_all}
use Rattle.report_findings.specs.Steady.{has_steady_operands, is_steady_value}
use Rattle.report_findings.proofs.steady.has_steady_operands.Given as goal

abbrev pub invariant-loop-operand : goal.invariant-loop-operand
invariant-loop-operand l =
    (goal.iterator-loop-operand).can_next l.operand-iterator
    × (goal.iterator-loop-operand).is_finite l.operand-iterator
    × (list_all (is_steady_value l.function l.steady) (map (λ operand. operand.0) l.operand-iterator)
    ≡ has_steady_operands l.function l.steady l.expression)
