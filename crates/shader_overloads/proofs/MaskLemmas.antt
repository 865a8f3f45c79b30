-- Masks of the remaining rules.
use Rattle.std.proofs.Common.{◌≡◌, ℕ, zero, suc, ◌-◌, ◌*◌, ◌%◌, ◌^◌, ◌<◌, ◌≤◌, Bool, true, false, ◌||◌, List, [], ◌∷◌, length}
use Rattle.std.proofs.Common.{refl, sym, ◌∙◌, ap, arith, inl, inr, bit_or, nat_eq, nat_lt, Some, slice_get, All, get_or, subst}
use Rattle.std.proofs.Math.Nat.{mod-eq_of_lt}
use Rattle.std.proofs.Math.Pow.{pow-lt}
use Rattle.std.specs.Int.{w64}
use Rattle.std.proofs.lemmas.List.Elements.{All-head, All-tail}
use Rattle.std.proofs.lemmas.Bool.{cases_lt, cases_eq, eq-eqb, ne_eqb, lt-ltb, le-ltb}
use Rattle.std.proofs.lemmas.Nat.Bits.{bit_at_set_same, bit_at_set_other, bit_at_ones, bit_at_ones_above}
use Rattle.shader_overloads.specs.Bits.{cons_if, has_bit, items_where}

-- a bit set in a word
pub with_bit : (n p k : ℕ) → p < 64 → has_bit (bit_or n (1 * 2 ^ p % 2 ^ 64)) k ≡ (nat_eq k p || has_bit n k)
with_bit n p k h = elim (cases_eq k p) [
  | inl e ↦ rw (e, eq-eqb p p refl) (ap (λ d. nat_eq d 1) (bit_at_set_same w64 n p h))
  | inr ne ↦ rw (ne_eqb k p ne) (ap (λ d. nat_eq d 1) (bit_at_set_other w64 n p h k ne))
]

pub all_bits : (count k : ℕ) → has_bit (2 ^ count - 1) k ≡ nat_lt k count
all_bits count k = elim (cases_lt k count) [
  | inl near ↦ ap (λ d. nat_eq d 1) (bit_at_ones count k near) ∙ sym (lt-ltb k count near)
  | inr far ↦ ap (λ d. nat_eq d 1) (bit_at_ones_above count k far) ∙ sym (le-ltb k count far)
]

-- ---- a set of positions of a list

pub no_element : {X : Type 0} (xs : List X) (k : ℕ) (x : X) → xs ≡ [] → slice_get xs k ≡ Some x → ⊥
no_element [] k x e at = cc
no_element (y ∷ xs) k x e at = cc

all_later : {X : Type 0} (P : X → Type 0) (b : Bool) (x : X) (xs : List X) → All P (cons_if b x xs) → All P xs
all_later P true x xs all = All-tail P x xs all
all_later P false x xs all = all

-- a property of all remaining elements holds of each in the mask
pub member_has : {X : Type 0} (P : X → Type 0) (p : ℕ → Bool) (xs : List X) (k : ℕ) (x : X) → All P (items_where p xs) → p k ≡ true →
    slice_get xs k ≡ Some x → P x
member_has P p [] k x all here at = absurd (cc)
member_has P p (y ∷ xs) zero x all here at =
    let same : y ≡ x = cc in
    subst P same (All-head P y (items_where (λ k. p (suc k)) xs)
    (subst (λ b. All P (cons_if b y (items_where (λ k. p (suc k)) xs))) here all))
member_has P p (y ∷ xs) (suc k) x all here at =
    member_has P (λ k. p (suc k)) xs k x (all_later P (p 0) y (items_where (λ k. p (suc k)) xs) all) here at

-- the element at a position, as a look-up
pub found : {X : Type 0} (xs : List X) (k : ℕ) (x : X) → k < length xs → x ≡ get_or xs k x → slice_get xs k ≡ Some x
found [] k x h e = absurd (omega arith)
found (y ∷ xs) zero x h e = ap Some (sym e)
found (y ∷ xs) (suc k) x h e = found xs k x (omega arith) e

pub small_power : (count : ℕ) → count ≤ 63 → 1 * 2 ^ count % 2 ^ 64 ≡ 2 ^ count
small_power count h =
    let one : 1 * 2 ^ count ≡ 2 ^ count = omega arith in
    let count_below : count < 64 = omega arith in
    ap (λ n. n % 2 ^ 64) one ∙ mod-eq_of_lt (pow-lt count_below)
