use Rattle.std.proofs.Common.{◌≡◌, length, nat_lt}
use Rattle.std.specs.List.{list_all}
use Rattle.shader_resolve.proofs.well_formed.data.predeclared_in_range.Given as goal

abbrev pub invariant-loop-ty : goal.invariant-loop-ty
invariant-loop-ty l =
    (goal.iterator-loop-ty).can_next l.ty-iterator
    × (goal.iterator-loop-ty).is_finite l.ty-iterator
    × (list_all (λ entry. nat_lt entry.1 (length l.«module».types)) l.ty-iterator
    ≡ list_all (λ entry. nat_lt entry.1 (length l.«module».types)) l.special.predeclared_types)
