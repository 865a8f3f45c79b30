use Rattle.std.proofs.Common.{◌≡◌, fold}
use Rattle.std.specs.List.{flat_map}
use Rattle.shader_arena.specs.Positions.{items_of}
use Rattle.shader_ir.specs.Occurs.{local_operands}
use Rattle.shader_passes.specs.Counting.{counting_after}
use Rattle.shader_passes.proofs.counting.Counting.count_locals.Given as goal

abbrev pub invariant-loop-local : goal.invariant-loop-local
invariant-loop-local l =
    (goal.iterator-loop-local).can_next l.local-iterator
    × (goal.iterator-loop-local).is_finite l.local-iterator
    × (fold counting_after l.self (flat_map local_operands (items_of l.local-iterator))
    ≡ fold counting_after l.fn.self (flat_map local_operands l.locals))
