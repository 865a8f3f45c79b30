-- The numbers `12 * i + j` as the bits of three words.
use Rattle.std.proofs.Common.{◌≡◌, ℕ, ◌+◌, ◌-◌, ◌*◌, ◌/◌, ◌%◌, ◌^◌, ◌<◌, ◌&&◌, ◌∙◌, ap, arith, inl, inr, bit_and, nat_eq}
use Rattle.std.proofs.lemmas.Bool.{cases_lt}
use Rattle.std.proofs.lemmas.Nat.Bits.{bit_at_above, bit_at_cat_high, bit_at_cat_low}
use Rattle.shader_overloads.specs.declared.mask.Mask.{Mask}
use Rattle.shader_overloads.specs.Bits.{has_bit}
use Rattle.shader_overloads.specs.Masks.{IsBelow, has_position}
use Rattle.shader_overloads.proofs.DigitLemmas.{high_bits, masked_bit}
use Rattle.shader_overloads.proofs.PositionLemmas.{position_in_number}

-- a word of 60 bits has the members for each bit of five groups
abbrev HasPairs : ℕ → ℕ → ℕ → Type 0
HasPairs word groups members = (k : ℕ) → k < 60 → has_bit word k ≡ (has_bit groups (k / 12) && has_bit members (k % 12))

module _ (groups members first second third : ℕ) (first_is : HasPairs first (bit_and groups 31) members)
    (second_is : HasPairs second (bit_and (groups / 2 ^ 5) 31) members) (third_is : HasPairs third (groups / 2 ^ 10) members)
    (first_in : first < 2 ^ 60) (second_in : second < 2 ^ 60) (third_in : third < 2 ^ 60) where
  -- the words one after another
  abbrev joined : ℕ
  joined = (third * 2 ^ 60 + second) * 2 ^ 60 + first

  abbrev words : Mask
  words = record { low = first + second * 2 ^ 60 % 2 ^ 64; middle = second / 2 ^ 4 + third * 2 ^ 56 % 2 ^ 64; high = third / 2 ^ 8 }

  in_joined : (k : ℕ) → has_position words k ≡ has_bit joined k
  in_joined k = position_in_number words joined k (omega arith) (omega arith) (omega arith)

  joined-bit : (k : ℕ) → k < 180 → has_bit joined k ≡ (has_bit groups (k / 12) && has_bit members (k % 12))
  joined-bit k h = elim (cases_lt k 60) [
    | inl near ↦
        ap (λ d. nat_eq d 1) (bit_at_cat_low (third * 2 ^ 60 + second) 60 first k near)
        ∙ first_is k near
        ∙ ap (λ b. b && has_bit members (k % 12)) (masked_bit groups 5 (k / 12) (omega arith))
    | inr far ↦
        let upper = bit_at_cat_high (third * 2 ^ 60 + second) 60 first k first_in far in
        let five : (k - 60) / 12 ≡ k / 12 - 5 = omega arith in
        let position : (k - 60) % 12 ≡ k % 12 = omega arith in
        elim (cases_lt k 120) [
          | inl near ↦
              ap (λ d. nat_eq d 1) (upper ∙ bit_at_cat_low third 60 second (k - 60) (omega arith))
              ∙ second_is (k - 60) (omega arith)
              ∙ ap (λ b. b && has_bit members ((k - 60) % 12)) (masked_bit (groups / 2 ^ 5) 5 ((k - 60) / 12) (omega arith)
              ∙ ap (has_bit (groups / 2 ^ 5)) five ∙ ap (λ d. nat_eq d 1) (high_bits groups 5 (k / 12) (omega arith)))
              ∙ ap (λ n. has_bit groups (k / 12) && has_bit members n) position
          | inr past ↦
              let ten : (k - 60 - 60) / 12 ≡ k / 12 - 10 = omega arith in
              let later : (k - 60 - 60) % 12 ≡ k % 12 = omega arith in
              ap (λ d. nat_eq d 1) (upper ∙ bit_at_cat_high third 60 second (k - 60) second_in (omega arith))
              ∙ third_is (k - 60 - 60) (omega arith)
              ∙ ap (λ b. b && has_bit members ((k - 60 - 60) % 12)) (ap (has_bit (groups / 2 ^ 10)) ten
              ∙ ap (λ d. nat_eq d 1) (high_bits groups 10 (k / 12) (omega arith)))
              ∙ ap (λ n. has_bit groups (k / 12) && has_bit members n) later
        ]
  ]

  pub words-pair : (k : ℕ) → k < 180 → has_position words k ≡ (has_bit groups (k / 12) && has_bit members (k % 12))
  words-pair k h = in_joined k ∙ joined-bit k h

  pub words-within : groups < 2 ^ 13 → IsBelow words 156
  words-within small k past = elim (cases_lt k 180) [
    | inl near ↦
        words-pair k near ∙ ap (λ b. b && has_bit members (k % 12))
        (ap (λ d. nat_eq d 1) (bit_at_above groups 13 (k / 12) small (omega arith)))
    | inr far ↦
        let fits : joined < 2 ^ 180 = omega arith in
        in_joined k ∙ ap (λ d. nat_eq d 1) (bit_at_above joined 180 k fits far)
  ]
