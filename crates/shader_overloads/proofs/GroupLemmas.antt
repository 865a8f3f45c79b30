-- The numbers of one group of twelve as the bits of three words.
use Rattle.std.proofs.Common.{◌≡◌, ℕ, ◌+◌, ◌-◌, ◌*◌, ◌/◌, ◌%◌, ◌^◌, ◌<◌, ◌≤◌, ◌&&◌, sym, ◌∙◌, ap, arith, inl, inr, bit_and, nat_eq}
use Rattle.std.proofs.Math.Nat.{mul_assoc}
use Rattle.std.specs.Int.{bit_at}
use Rattle.std.proofs.lemmas.Bool.{cases_lt, eq-eqb, ne_eqb}
use Rattle.std.proofs.lemmas.Nat.{and_le_r, pow-add, pow_pos, shl_whole}
use Rattle.std.proofs.lemmas.Nat.Bits.{bit_at-zero, bit_at_above, bit_at_cat_high, bit_at_cat_low}
use Rattle.shader_overloads.specs.declared.mask.Mask.{Mask}
use Rattle.shader_overloads.specs.Bits.{has_bit}
use Rattle.shader_overloads.specs.Masks.{has_position}
use Rattle.shader_overloads.proofs.DigitLemmas.{masked_bit}
use Rattle.shader_overloads.proofs.PositionLemmas.{position_in_number}

-- twelve members at the position of a group
moved_bit : (members group k : ℕ) → members < 4096 → has_bit (members * 2 ^ (12 * group)) k
    ≡ (nat_eq (k / 12) group && has_bit members (k % 12))
moved_bit members group k small =
    let start = 12 * group in
    let bare : members * 2 ^ start ≡ members * 2 ^ start + 0 = omega arith in
    elim (cases_lt k start) [
      | inl before ↦
          rw (ne_eqb (k / 12) group (λ e. omega arith)) (ap (λ d. nat_eq d 1) (ap (λ n. bit_at n k) bare
          ∙ bit_at_cat_low members start 0 k before ∙ bit_at-zero k))
      | inr after ↦
          let upper : bit_at (members * 2 ^ start) k ≡ bit_at members (k - start) =
          ap (λ n. bit_at n k) bare ∙ bit_at_cat_high members start 0 k (pow_pos start) after in
          elim (cases_lt (k - start) 12) [
            | inl near ↦
                let position : k - start ≡ k % 12 = omega arith in
                rw (eq-eqb (k / 12) group (omega arith)) (ap (λ d. nat_eq d 1) (upper ∙ ap (bit_at members) position))
            | inr far ↦
                rw (ne_eqb (k / 12) group (λ e. omega arith)) (ap (λ d. nat_eq d 1) (upper ∙ bit_at_above members 12 (k - start) small far))
          ]
    ]

-- a power of two as a product
in_parts : (n s a : ℕ) → a ≤ s → n * 2 ^ s ≡ n * 2 ^ (s - a) * 2 ^ a
in_parts n s a h =
    let sum : s ≡ s - a + a = omega arith in
    ap (λ t. n * 2 ^ t) sum ∙ ap (λ p. n * p) (pow-add 2 (s - a) a) ∙ sym (mul_assoc n (2 ^ (s - a)) (2 ^ a))

module _ (members k : ℕ) where
  abbrev twelve : ℕ
  twelve = bit_and members 4095

  small : twelve < 4096
  small = omega (arith, and_le_r members 4095)

  placed : (group : ℕ) (words : Mask) → words.low < 2 ^ 64 → words.middle < 2 ^ 64 →
      twelve * 2 ^ (12 * group) ≡ (words.high * 2 ^ 64 + words.middle) * 2 ^ 64 + words.low →
      has_position words k ≡ (nat_eq (k / 12) group && has_bit members (k % 12))
  placed group words low middle is =
      position_in_number words (twelve * 2 ^ (12 * group)) k low middle is
      ∙ moved_bit twelve group k small
      ∙ ap (λ b. nat_eq (k / 12) group && b) (masked_bit members 12 (k % 12) (omega arith))

  pub in_low : (group : ℕ) → group < 5 → has_position (record { low = twelve * 2 ^ (12 * group) % 2 ^ 64; middle = 0; high = 0 }) k
      ≡ (nat_eq (k / 12) group && has_bit members (k % 12))
  in_low group h =
      let whole = shl_whole twelve 12 (12 * group) 64 small (omega arith) in
      placed group (record { low = twelve * 2 ^ (12 * group) % 2 ^ 64; middle = 0; high = 0 }) (omega arith) (omega arith)
      (omega (arith, whole))

  pub across_low : has_position (record { low = twelve * 2 ^ 60 % 2 ^ 64; middle = twelve / 2 ^ 4; high = 0 }) k
      ≡ (nat_eq (k / 12) 5 && has_bit members (k % 12))
  across_low = placed 5 (record { low = twelve * 2 ^ 60 % 2 ^ 64; middle = twelve / 2 ^ 4; high = 0 }) (omega arith) (omega (arith, small))
      (omega (arith, small))

  pub in_middle : (group : ℕ) → 5 < group → group < 10 → has_position
      (record { low = 0; middle = twelve * 2 ^ (12 * group - 64) % 2 ^ 64; high = 0 }) k
      ≡ (nat_eq (k / 12) group && has_bit members (k % 12))
  in_middle group low high =
      let whole = shl_whole twelve 12 (12 * group - 64) 64 small (omega arith) in
      let parts = in_parts twelve (12 * group) 64 (omega arith) in
      placed group (record { low = 0; middle = twelve * 2 ^ (12 * group - 64) % 2 ^ 64; high = 0 }) (omega arith) (omega arith)
      (omega (arith, whole, parts))

  pub across_middle : has_position (record { low = 0; middle = twelve * 2 ^ 56 % 2 ^ 64; high = twelve / 2 ^ 8 }) k
      ≡ (nat_eq (k / 12) 10 && has_bit members (k % 12))
  across_middle = placed 10 (record { low = 0; middle = twelve * 2 ^ 56 % 2 ^ 64; high = twelve / 2 ^ 8 }) (omega arith) (omega arith)
      (omega (arith, small))

  pub in_high : (group : ℕ) → 10 < group → group < 13 → has_position
      (record { low = 0; middle = 0; high = twelve * 2 ^ (12 * group - 128) % 2 ^ 64 }) k
      ≡ (nat_eq (k / 12) group && has_bit members (k % 12))
  in_high group low high =
      let whole = shl_whole twelve 12 (12 * group - 128) 64 small (omega arith) in
      let parts = in_parts twelve (12 * group) 128 (omega arith) in
      placed group (record { low = 0; middle = 0; high = twelve * 2 ^ (12 * group - 128) % 2 ^ 64 }) (omega arith) (omega arith)
      (omega (arith, whole, parts))
