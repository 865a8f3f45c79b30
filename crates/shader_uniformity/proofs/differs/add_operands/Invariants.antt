use Rattle.std.proofs.Common.{◌≡◌, ◌++◌, map}
use Rattle.shader_ir.specs.Operands.{expression_operands}
use Rattle.shader_uniformity.specs.Differs.{operand_rule}
use Rattle.shader_uniformity.proofs.differs.add_operands.Given as goal

abbrev pub invariant-loop-operand : goal.invariant-loop-operand
invariant-loop-operand l =
    (goal.iterator-loop-operand).can_next l.operand-iterator
    × (goal.iterator-loop-operand).is_finite l.operand-iterator
    × (l.rules.items ++ map (operand_rule l.handle) l.operand-iterator
    ≡ l.fn.rules.items ++ map (operand_rule l.handle) (expression_operands l.expression))
