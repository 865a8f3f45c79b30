-- Sets of labels as numbers, joined along a list.
use Rattle.std.proofs.Common.{◌≡◌, refl, sym, subst, ◌∙◌, ℕ, zero, suc, ◌+◌, ◌-◌, ◌<◌, ◌≤◌, ◌⊎◌, inl}
use Rattle.std.proofs.Common.{inr, List, [], ◌∷◌, Bool, true, false, fold, bit_or, nat_lt, arith}
use borrow.Author.Tests.{ltb-true, ltb-false}
use Rattle.std.specs.Int.{IsBitSet, bit_at}
use Rattle.std.specs.List.{Contains}
use Rattle.std.proofs.lemmas.Nat.{bit_set_by_shift}
use Rattle.std.proofs.lemmas.Nat.Bits.{shr_and_one, bit_at-zero}
use Rattle.shader_analysis_spec.proofs.BitsLemmas.{numbers_are_sets}
use Rattle.shader_arena.specs.Positions.{positions_from, positions_between}
use Rattle.shader_analysis_spec.proofs.ListLemmas.{nowhere, here, there, cases}

pub bit_to : (n k : ℕ) → IsBitSet n k → bit_at n k ≡ 1
bit_to n k h = sym (shr_and_one n k) ∙ (bit_set_by_shift n k).1 h

pub of_bit : (n k : ℕ) → bit_at n k ≡ 1 → IsBitSet n k
of_bit n k e = (bit_set_by_shift n k).0 (shr_and_one n k ∙ e)

pub no_bit : (k : ℕ) → IsBitSet 0 k → ⊥
no_bit k h = let one = bit_to 0 k h in let none = bit_at-zero k in absurd (omega arith)

-- the number doesn't have the bit
pub not_bit : (n k : ℕ) → bit_at n k ≡ 0 → IsBitSet n k → ⊥
not_bit n k e h = let one = bit_to n k h in absurd (omega arith)

pub or_to : (a b k : ℕ) → IsBitSet (bit_or a b) k → IsBitSet a k ⊎ IsBitSet b k
or_to a b k h = (numbers_are_sets.0 a b k).0 h

pub or_of : (a b k : ℕ) → IsBitSet a k ⊎ IsBitSet b k → IsBitSet (bit_or a b) k
or_of a b k h = (numbers_are_sets.0 a b k).1 h

-- a fold that adds the bits of which P holds
module _ {X : Type 0} (step : ℕ → X → ℕ) (P : X → ℕ → Type 0)
    (adds : (n k : ℕ) (x : X) → IsBitSet (step n x) k → IsBitSet n k ⊎ P x k)
    (gains : (n k : ℕ) (x : X) → IsBitSet n k ⊎ P x k → IsBitSet (step n x) k) where
  pub joined_to : (n k : ℕ) (xs : List X) → IsBitSet (fold step n xs) k → IsBitSet n k ⊎ ((x : X) × Contains xs x × P x k)
  joined_to n k [] h = inl h
  joined_to n k (x ∷ xs) h = elim (joined_to (step n x) k xs h) [
    | inl early ↦ elim (adds n k x early) [ inl old ↦ inl old | inr one ↦ inr (x, here x xs, one) ]
    | inr later ↦ inr (later.0, there x xs later.0 later.1, later.2)
  ]

  pub joined_old : (n k : ℕ) (xs : List X) → IsBitSet n k → IsBitSet (fold step n xs) k
  joined_old n k [] h = h
  joined_old n k (x ∷ xs) h = joined_old (step n x) k xs (gains n k x (inl h))

  pub joined_of : (n k : ℕ) (xs : List X) (x : X) → Contains xs x → P x k → IsBitSet (fold step n xs) k
  joined_of n k [] x h p = absurd (nowhere x h)
  joined_of n k (z ∷ zs) x h p = elim (cases z zs x h) [
    | inl is ↦ let Q : X → Type 0 = λ v. P v k in joined_old (step n z) k zs (gains n k z (inr (subst Q (sym is) p)))
    | inr later ↦ joined_of (step n z) k zs x later p
  ]

-- the positions of a range
from_to : (first n e : ℕ) → Contains (positions_from first n) e → (first ≤ e) × (e < first + n)
from_to first zero e h = absurd (nowhere e h)
from_to first (suc n) e h = elim (cases first (positions_from (first + 1) n) e h) [
  | inl is ↦ (omega arith, omega arith)
  | inr later ↦ let r = from_to (first + 1) n e later in (omega (arith, r.0), omega (arith, r.1))
]

of_from : (first n e : ℕ) → first ≤ e → e < first + n → Contains (positions_from first n) e
of_from first zero e le lt = absurd (omega arith)
of_from first (suc n) e le lt = at (nat_lt first e) refl (λ after. of_from (first + 1) n e (omega arith) (omega arith)) where
  at : (b : Bool) → nat_lt first e ≡ b → (first < e → Contains (positions_from (first + 1) n) e) → Contains (positions_from first (suc n)) e
  at true h later = there first (positions_from (first + 1) n) e (later (omega (arith, ltb-true, h)))
  at false h later =
      let same : first ≡ e = omega (arith, ltb-false, h) in
      let P : ℕ → Type 0 = λ v. Contains (positions_from first (suc n)) v in subst P same (here first (positions_from (first + 1) n))

pub range_to : (start finish e : ℕ) → Contains (positions_between start finish) e → (start ≤ e) × (e < finish)
range_to start finish e h = let r = from_to start (finish - start) e h in (r.0, omega (arith, r.0, r.1))

pub of_range : (start finish e : ℕ) → start ≤ e → e < finish → Contains (positions_between start finish) e
of_range start finish e le lt = of_from start (finish - start) e le (omega arith)
