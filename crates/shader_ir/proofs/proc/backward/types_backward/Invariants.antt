use Rattle.std.proofs.Common.{◌↔◌}
use Rattle.shader_ir.specs.TypeTree.{IsBackward}
use Rattle.shader_ir.proofs.TypeTreeLemmas.{AreBackward}
use Rattle.shader_ir.proofs.proc.backward.types_backward.Given as goal

abbrev pub invariant-loop-handle : goal.invariant-loop-handle
invariant-loop-handle l =
    (goal.iterator-loop-handle).can_next l.handle-iterator
    × (goal.iterator-loop-handle).is_finite l.handle-iterator
    × (AreBackward l.handle-iterator ↔ IsBackward l.types)
