use Rattle.std.proofs.Common.{◌≡◌, length, nat_lt}
use Rattle.std.specs.List.{list_all}
use Rattle.shader_resolve.proofs.well_formed.functions.named_in_range.Given as goal

abbrev pub invariant-loop-expression : goal.invariant-loop-expression
invariant-loop-expression l =
    (goal.iterator-loop-expression).can_next l.expression-iterator
    × (goal.iterator-loop-expression).is_finite l.expression-iterator
    × (list_all (λ entry. nat_lt entry.0 (length l.function.expressions)) l.expression-iterator
    ≡ list_all (λ entry. nat_lt entry.0 (length l.function.expressions)) l.function.named_expressions)
