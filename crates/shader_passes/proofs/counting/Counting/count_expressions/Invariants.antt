use Rattle.std.proofs.Common.{◌≡◌, fold}
use Rattle.std.specs.List.{flat_map}
use Rattle.shader_arena.specs.Positions.{items_of}
use Rattle.shader_ir.specs.Operands.{expression_operands}
use Rattle.shader_passes.specs.Counting.{counting_after}
use Rattle.shader_passes.proofs.counting.Counting.count_expressions.Given as goal

abbrev pub invariant-loop-expression : goal.invariant-loop-expression
invariant-loop-expression l =
    (goal.iterator-loop-expression).can_next l.expression-iterator
    × (goal.iterator-loop-expression).is_finite l.expression-iterator
    × (fold counting_after l.self (flat_map expression_operands (items_of l.expression-iterator))
    ≡ fold counting_after l.fn.self (flat_map expression_operands l.expressions))
