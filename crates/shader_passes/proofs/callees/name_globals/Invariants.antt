use Rattle.std.proofs.Common.{◌≡◌, fold, map}
use Rattle.shader_passes.specs.CalleeUses.{named_by}
use Rattle.shader_passes.specs.Counting.{bits_in}
use Rattle.shader_passes.proofs.callees.name_globals.Given as goal

abbrev pub invariant-loop-expression : goal.invariant-loop-expression
invariant-loop-expression l =
    (goal.iterator-loop-expression).can_next l.expression-iterator
    × (goal.iterator-loop-expression).is_finite l.expression-iterator
    × (fold (named_by l.facts) (bits_in l.uses) (map (λ entry. entry.0) l.expression-iterator)
    ≡ fold (named_by l.facts) (bits_in l.fn.uses) (map (λ entry. entry.0) l.named))
