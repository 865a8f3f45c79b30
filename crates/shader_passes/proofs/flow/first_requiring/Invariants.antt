use Rattle.std.proofs.Common.{◌≡◌}
use Rattle.shader_arena.specs.Positions.{positions_between}
use Rattle.shader_passes.specs.Ends.{first_requiring}
use Rattle.shader_passes.proofs.flow.first_requiring.Given as goal

abbrev pub invariant-loop-expression : goal.invariant-loop-expression
invariant-loop-expression l =
    (goal.iterator-loop-expression).can_next l.expression-iterator
    × (goal.iterator-loop-expression).is_finite l.expression-iterator
    × (first_requiring l.facts l.expression-iterator ≡ first_requiring l.facts (positions_between l.range.0 l.range.1))
