-- The set bits of a number are increasing powers of two that add up to it.
use Rattle.std.proofs.Common.{◌≡◌, ◌∙◌, ap, refl, ℕ, zero, suc, ◌+◌, ◌*◌, ◌/◌, ◌%◌, ◌^◌, ◌<◌, ◌≤◌, Bool}
use Rattle.std.proofs.Common.{true, false, cond, List, [], ◌∷◌, map, nat_eq, get_or, add-one, arith}
use Rattle.std.proofs.Math.Nat.{mod-eq_of_lt, pow-succ'}
use Rattle.std.proofs.lemmas.List.Elements.{All-map}
use Rattle.std.proofs.lemmas.List.Sums.{sum_by-cons}
use Rattle.std.proofs.lemmas.Nat.{mod-pow-add, pow_pos}
use Rattle.std.specs.Int.{IsPowerOfTwo}
use Rattle.std.specs.List.{filter, range_with_len, sum}
use Rattle.std.specs.List.Sorted.{IsStrictlyIncreasing}
use Rattle.shader_overloads.specs.BitLaws.{OneBitsAddUp, OneBitsArePowers, OneBitsGrow}
use Rattle.shader_overloads.specs.Bits.{has_bit, one_bits}

pub one_bits-powers : OneBitsArePowers
unfolding one_bits
one_bits-powers n = All-map IsPowerOfTwo (λ k. 2 ^ k) (filter (has_bit n) (range_with_len 0 64))
    (λ i d within. power (get_or (filter (has_bit n) (range_with_len 0 64)) i d))
  where
    power : (k : ℕ) → IsPowerOfTwo (2 ^ k)
    power k = (k, refl)

-- ---- increasing

-- each number of a list is above the one before it, and the first is at least low
abbrev Rises : ℕ → List ℕ → Type 0
Rises low [] = Unit {0}
Rises low (x ∷ xs) = (low ≤ x) × Rises (x + 1) xs

Rises-weaker : (low high : ℕ) (xs : List ℕ) → low ≤ high → Rises high xs → Rises low xs
Rises-weaker low high [] below rises = tt
Rises-weaker low high (x ∷ xs) below rises = (omega (arith, rises.0), rises.1)

IsStrictlyIncreasing-from_rises : (low : ℕ) (xs : List ℕ) → Rises low xs → IsStrictlyIncreasing xs
IsStrictlyIncreasing-from_rises low [] rises k within = absurd (omega arith)
IsStrictlyIncreasing-from_rises low (x ∷ []) rises k within = absurd (omega arith)
IsStrictlyIncreasing-from_rises low (x ∷ y ∷ ys) rises zero within = omega (arith, rises.1.0)
IsStrictlyIncreasing-from_rises low (x ∷ y ∷ ys) rises (suc k) within =
    let later = IsStrictlyIncreasing-from_rises (x + 1) (y ∷ ys) rises.1 k (omega arith) in rw add-one (rw add-one at later)

next_power : (s : ℕ) → 2 ^ s + 1 ≤ 2 ^ (s + 1)
next_power s =
    let some : 0 < 2 ^ s = pow_pos s in
    let next : s + 1 ≡ suc s = omega arith in
    let twice : 2 ^ (s + 1) ≡ 2 * 2 ^ s = ap (λ k. 2 ^ k) next ∙ pow-succ' 2 s in
    omega arith

Rises-first : (b : Bool) (s : ℕ) (positions : List ℕ) → Rises (2 ^ (s + 1)) (map (λ k. 2 ^ k) positions) →
    Rises (2 ^ s) (map (λ k. 2 ^ k) (cond b (s ∷ positions) positions))
Rises-first true s positions rises = (omega arith, Rises-weaker (2 ^ s + 1) (2 ^ (s + 1)) (map (λ k. 2 ^ k) positions) (next_power s) rises)
Rises-first false s positions rises = Rises-weaker (2 ^ s) (2 ^ (s + 1)) (map (λ k. 2 ^ k) positions) (omega (arith, next_power s)) rises

module _ (p : ℕ → Bool) where
  -- the powers at the positions that pass
  abbrev powers : List ℕ → List ℕ
  powers positions = map (λ k. 2 ^ k) (filter p positions)

  Rises-powers : (s w : ℕ) → Rises (2 ^ s) (powers (range_with_len s w))
  Rises-powers s zero = tt
  Rises-powers s (suc w) = Rises-first (p s) s (filter p (range_with_len (s + 1) w)) (Rises-powers (s + 1) w)

pub one_bits-grow : OneBitsGrow
unfolding one_bits
one_bits-grow n = IsStrictlyIncreasing-from_rises 1 (powers (has_bit n) (range_with_len 0 64)) (Rises-powers (has_bit n) 0 64)

-- ---- adding up

sum-first : (b : Bool) (s : ℕ) (positions : List ℕ) → sum (map (λ k. 2 ^ k) (cond b (s ∷ positions) positions)) ≡ cond b (2 ^ s) 0
    + sum (map (λ k. 2 ^ k) positions)
sum-first true s positions = sum_by-cons (λ x. x) (2 ^ s) (map (λ k. 2 ^ k) positions)
sum-first false s positions = omega arith

digit_value : (r power : ℕ) → r < 2 → cond (nat_eq r 1) power 0 ≡ r * power
digit_value zero power h = omega arith
digit_value (suc zero) power h = omega arith
digit_value (suc (suc r)) power h = absurd (omega arith)

put_together : (whole first rest value low more all : ℕ) → whole ≡ first + rest → first ≡ value → more ≡ value + low → rest + more ≡ all →
    whole + low ≡ all
put_together whole first rest value low more all a b c d = omega arith

-- the powers at the set positions from s on, plus the number below 2 ^ s
sum-positions : (n s w : ℕ) → sum (powers (has_bit n) (range_with_len s w)) + n % 2 ^ s ≡ n % 2 ^ (s + w)
sum-positions n s zero =
    let last : s ≡ s + 0 = omega arith in
    let none : 0 + n % 2 ^ s ≡ n % 2 ^ s = omega arith in
    none ∙ ap (λ k. n % 2 ^ k) last
sum-positions n s (suc w) =
    let later : s + 1 + w ≡ s + suc w = omega arith in
    let turned : s + 1 ≡ 1 + s = omega arith in
    put_together _ _ _ _ _ _ _
    (sum-first (has_bit n s) s (filter (has_bit n) (range_with_len (s + 1) w)))
    (digit_value (n / 2 ^ s % 2) (2 ^ s) (omega arith))
    (ap (λ k. n % 2 ^ k) turned ∙ mod-pow-add n 1 s)
    (sum-positions n (s + 1) w ∙ ap (λ k. n % 2 ^ k) later)

pub one_bits-add_up : OneBitsAddUp
unfolding one_bits
one_bits-add_up n fits =
    let all : sum (powers (has_bit n) (range_with_len 0 64)) + n % 2 ^ 0 ≡ n % 2 ^ (0 + 64) = sum-positions n 0 64 in
    let none : n % 2 ^ 0 ≡ 0 = omega arith in
    let whole : n % 2 ^ (0 + 64) ≡ n = mod-eq_of_lt fits in
    omega (arith, all, none, whole)
