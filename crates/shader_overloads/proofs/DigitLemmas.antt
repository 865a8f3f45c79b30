-- Numbers to the base 4096, digit by digit.
use Rattle.std.proofs.Common.{◌≡◌, ℕ, zero, suc, ◌+◌, ◌-◌, ◌*◌, ◌/◌, ◌%◌, ◌^◌, ◌<◌, ◌≤◌, true}
use Rattle.std.proofs.Common.{◌&&◌, refl, sym, ◌∙◌, ap, arith, inl, inr, bit_and, nat_eq}
use Rattle.std.proofs.Math.Nat.{add-mul, mul_right_comm, pow-succ'}
use Rattle.std.specs.Int.{bit_at}
use Rattle.std.proofs.lemmas.Bool.{agree_below_at, cases_lt, eqb-true}
use Rattle.std.proofs.lemmas.Nat.{and_mask, mod_below, mul-le, pow_pos, shr_split}
use Rattle.std.proofs.lemmas.Nat.Bits.{bit_at-lt, bit_at-zero, bit_at_cat_high, bit_at_cat_low}
use Rattle.shader_overloads.specs.Bits.{has_bit}

-- ---- splitting a number

pub low_bits : (n w k : ℕ) → k < w → bit_at (n % 2 ^ w) k ≡ bit_at n k
low_bits n w k h = sym (bit_at_cat_low (n / 2 ^ w) w (n % 2 ^ w) k h) ∙ ap (λ m. bit_at m k) (shr_split n w)

pub high_bits : (n w k : ℕ) → w ≤ k → bit_at (n / 2 ^ w) (k - w) ≡ bit_at n k
high_bits n w k h = sym (bit_at_cat_high (n / 2 ^ w) w (n % 2 ^ w) k (mod_below n (2 ^ w) (pow_pos w)) h)
    ∙ ap (λ m. bit_at m k) (shr_split n w)

pub masked_bit : (n w k : ℕ) → k < w → has_bit (bit_and n (2 ^ w - 1)) k ≡ has_bit n k
masked_bit n w k h = ap (λ d. nat_eq d 1) (ap (λ m. bit_at m k) (and_mask n w) ∙ low_bits n w k h)

-- ---- digits

-- the number whose digits to the base 4096 are these, the lowest first
abbrev digits : (ℕ → ℕ) → ℕ → ℕ
digits f zero = 0
digits f (suc n) = digits (λ i. f (suc i)) n * 4096 + f 0

digits-times : (f : ℕ → ℕ) (n m : ℕ) → digits f n * m ≡ digits (λ i. f i * m) n
digits-times f zero m = omega arith
digits-times f (suc n) m =
    add-mul (digits (λ i. f (suc i)) n * 4096) (f 0) m
    ∙ ap (λ v. v + f 0 * m) (mul_right_comm (digits (λ i. f (suc i)) n) 4096 m ∙ ap (λ v. v * 4096) (digits-times (λ i. f (suc i)) n m))

digits-below : (f : ℕ → ℕ) (n : ℕ) → ((i : ℕ) → f i < 4096) → digits f n < 4096 ^ n
digits-below f zero each = omega arith
digits-below f (suc n) each =
    let rest = digits-below (λ i. f (suc i)) n (λ i. each (suc i)) in
    rw (pow-succ' 4096 n) (omega (arith, each 0, rest))

-- digit i has the twelve bits from 12 i on
digits-bit : (f : ℕ → ℕ) (n k : ℕ) → ((i : ℕ) → f i < 4096) → k < 12 * n → bit_at (digits f n) k ≡ bit_at (f (k / 12)) (k % 12)
digits-bit f zero k each h = absurd (omega arith)
digits-bit f (suc n) k each h = elim (cases_lt k 12) [
  | inl near ↦
      let group : 0 ≡ k / 12 = omega arith in
      let position : k ≡ k % 12 = omega arith in
      bit_at_cat_low (digits (λ i. f (suc i)) n) 12 (f 0) k near ∙ ap (bit_at (f 0)) position ∙ ap (λ i. bit_at (f i) (k % 12)) group
  | inr far ↦
      let group : suc ((k - 12) / 12) ≡ k / 12 = omega arith in
      let position : (k - 12) % 12 ≡ k % 12 = omega arith in
      bit_at_cat_high (digits (λ i. f (suc i)) n) 12 (f 0) k (each 0) far
      ∙ digits-bit (λ i. f (suc i)) n (k - 12) (λ i. each (suc i)) (omega arith)
      ∙ ap (λ i. bit_at (f i) ((k - 12) % 12)) group ∙ ap (bit_at (f (k / 12))) position
]

-- ---- the product of two sets of bits

-- the bits of a number of five bits, moved twelve positions apart
spread : (groups : ℕ) → groups < 32 → bit_and (groups * 17600780175361) 281543712968705 ≡ digits (bit_at groups) 5
spread groups h =
    let test = λ (n : ℕ). nat_eq (bit_and (n * 17600780175361) 281543712968705) (digits (bit_at n) 5) in
    eqb-true _ _ (agree_below_at test (λ _. true) 32 groups refl h)

digit-below : (groups members i : ℕ) → members < 4096 → bit_at groups i * members < 4096
digit-below groups members i h =
    let bit = bit_at-lt groups i in
    let most = mul-le (bit_at groups i) members 1 4095 (omega (arith, bit)) (omega arith) in
    omega (arith, most)

digit-bit : (b members j : ℕ) → b < 2 → nat_eq (bit_at (b * members) j) 1 ≡ (nat_eq b 1 && has_bit members j)
digit-bit b members j h = elim (cases_lt b 1) [
  | inl none ↦
      let zero_bit : b ≡ 0 = omega arith in
      rw zero_bit (ap (λ d. nat_eq d 1) (ap (λ n. bit_at n j) (let e : 0 * members ≡ 0 = omega arith in e) ∙ bit_at-zero j))
  | inr some ↦
      let one_bit : b ≡ 1 = omega arith in
      rw one_bit (ap (λ n. has_bit n j) (let e : 1 * members ≡ members = omega arith in e))
]

module _ (groups members : ℕ) (few : groups < 32) (small : members < 4096) where
  product : bit_and (groups * 17600780175361) 281543712968705 * members ≡ digits (λ i. bit_at groups i * members) 5
  product = ap (λ n. n * members) (spread groups few) ∙ digits-times (bit_at groups) 5 members

  pub product-bit : (k : ℕ) → k < 60 → has_bit (bit_and (groups * 17600780175361) 281543712968705 * members) k
      ≡ (has_bit groups (k / 12) && has_bit members (k % 12))
  product-bit k h =
      ap (λ n. has_bit n k) product
      ∙ ap (λ d. nat_eq d 1) (digits-bit (λ i. bit_at groups i * members) 5 k (λ i. digit-below groups members i small) (omega arith))
      ∙ digit-bit (bit_at groups (k / 12)) members (k % 12) (bit_at-lt groups (k / 12))

  pub product-below : bit_and (groups * 17600780175361) 281543712968705 * members < 2 ^ 60
  product-below =
      let most : digits (λ i. bit_at groups i * members) 5 < 4096 ^ 5 =
      digits-below (λ i. bit_at groups i * members) 5 (λ i. digit-below groups members i small) in
      rw product most
