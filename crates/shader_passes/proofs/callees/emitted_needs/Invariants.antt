use Rattle.std.proofs.Common.{◌≡◌}
use Rattle.shader_arena.specs.Positions.{positions_between}
use Rattle.shader_passes.specs.CalleeUses.{with_needs_in}
use Rattle.shader_passes.proofs.callees.emitted_needs.Given as goal

abbrev pub invariant-loop-expression : goal.invariant-loop-expression
invariant-loop-expression l =
    (goal.iterator-loop-expression).can_next l.expression-iterator
    × (goal.iterator-loop-expression).is_finite l.expression-iterator
    × (with_needs_in l.facts l.requirements.0 l.expression-iterator ≡ with_needs_in l.facts 0 (positions_between l.range.0 l.range.1))
