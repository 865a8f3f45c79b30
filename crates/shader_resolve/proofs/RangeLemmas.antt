-- The greatest position of a range is its last.
use Rattle.std.proofs.Common.{◌≡◌, ◌∙◌, ap, sym, refl, ℕ, zero, suc, ◌+◌, ◌-◌, ◌≤◌, nat_lt}
use Rattle.std.proofs.Common.{Bool, true, false, cond, ◌&&◌, Option, Some, None, arith}
use Rattle.std.specs.List.{list_all}
use Rattle.std.proofs.lemmas.Bool.{lt-ltb, le-ltb, ltb-true}
use Rattle.shader_arena.specs.Positions.{positions_from, positions_between, ends_between}

and-true : (b : Bool) → (b && true) ≡ b
and-true true = refl
and-true false = refl

and-false : (b : Bool) → (b && false) ≡ false
and-false true = refl
and-false false = refl

later-decides : (first second bound : ℕ) → first ≤ second → (nat_lt first bound && nat_lt second bound) ≡ nat_lt second bound
later-decides first second bound le = by (nat_lt second bound) refl
  where
    by : (test : Bool) → nat_lt second bound ≡ test → (nat_lt first bound && test) ≡ test
    by true e = let lt = ltb-true second bound e in ap (λ b. b && true) (lt-ltb first bound (omega arith))
    by false e = and-false (nat_lt first bound)

from-below : (bound n first : ℕ) → list_all (λ position. nat_lt position bound) (positions_from first (suc n)) ≡ nat_lt (first + n) bound
from-below bound zero first =
    let same : first ≡ first + 0 = omega arith in
    and-true (nat_lt first bound) ∙ ap (λ position. nat_lt position bound) same
from-below bound (suc n) first =
    let same : first + 1 + n ≡ first + suc n = omega arith in
    ap (λ b. nat_lt first bound && b) (from-below bound n (first + 1))
    ∙ later-decides first (first + 1 + n) bound (omega arith) ∙ ap (λ position. nat_lt position bound) same

-- whether the last position, if any, is below a bound
abbrev pub last_below : ℕ → Option (ℕ × ℕ) → Bool
last_below bound (Some ends) = nat_lt ends.1 bound
last_below bound None = true

pub positions_below : (bound start end : ℕ) → list_all (λ position. nat_lt position bound) (positions_between start end)
    ≡ last_below bound (ends_between start end)
positions_below bound start end = by (end - start) refl
  where
    by : (count : ℕ) → end - start ≡ count → list_all (λ position. nat_lt position bound) (positions_from start count)
        ≡ last_below bound (ends_between start end)
    by zero e =
        let none : nat_lt start end ≡ false = le-ltb start end (omega arith) in
        ap (λ test. last_below bound (cond test (Some (start, end - 1)) None)) (sym none)
    by (suc n) e =
        let some : nat_lt start end ≡ true = lt-ltb start end (omega arith) in
        let last : start + n ≡ end - 1 = omega arith in
        from-below bound n start ∙ ap (λ position. nat_lt position bound) last
        ∙ ap (λ test. last_below bound (cond test (Some (start, end - 1)) None)) (sym some)
