-- Numbers as sets of labels.
use Rattle.std.proofs.Common.{◌≡◌, sym, ◌∙◌, ℕ, ◌⊎◌, inl, inr, ◌↔◌, bit_or, max, arith}
use Rattle.std.specs.Int.{IsBitSet, bit_at}
use Rattle.std.proofs.lemmas.Nat.{bit_set_by_shift}
use Rattle.std.proofs.lemmas.Nat.Bits.{shr_and_one, bit_at_or, bit_at-lt, same_from_bits_below}
use Rattle.std.proofs.lemmas.Bool.{cases_eq}
use Rattle.shader_analysis_spec.specs.Bits.{NumbersAreSets}

to_one : (n k : ℕ) → IsBitSet n k → bit_at n k ≡ 1
to_one n k h = sym (shr_and_one n k) ∙ (bit_set_by_shift n k).1 h

of_one : (n k : ℕ) → bit_at n k ≡ 1 → IsBitSet n k
of_one n k e = (bit_set_by_shift n k).0 (shr_and_one n k ∙ e)

either : (a b k : ℕ) → IsBitSet (bit_or a b) k → IsBitSet a k ⊎ IsBitSet b k
either a b k h =
    let e : max (bit_at a k) (bit_at b k) ≡ 1 = sym (bit_at_or a b k) ∙ to_one (bit_or a b) k h in
    elim (cases_eq (bit_at a k) 1) [
      | inl is ↦ inl (of_one a k is)
      | inr not ↦ inr (of_one b k (omega (arith, bit_at-lt a k, bit_at-lt b k)))
    ]

both_ways : (a b k : ℕ) → IsBitSet a k ⊎ IsBitSet b k → IsBitSet (bit_or a b) k
both_ways a b k (inl h) = of_one (bit_or a b) k (let e = to_one a k h in omega (arith, bit_at_or a b k, bit_at-lt a k, bit_at-lt b k))
both_ways a b k (inr h) = of_one (bit_or a b) k (let e = to_one b k h in omega (arith, bit_at_or a b k, bit_at-lt a k, bit_at-lt b k))

same_bit : (a b k : ℕ) → IsBitSet a k ↔ IsBitSet b k → bit_at a k ≡ bit_at b k
same_bit a b k h = elim (cases_eq (bit_at a k) 1) [
  | inl is ↦ is ∙ sym (to_one b k (h.0 (of_one a k is)))
  | inr no_a ↦ elim (cases_eq (bit_at b k) 1) [
    | inl is ↦ absurd (no_a (to_one a k (h.1 (of_one b k is))))
    | inr no_b ↦ omega (arith, bit_at-lt a k, bit_at-lt b k)
  ]
]

pub numbers_are_sets : NumbersAreSets
numbers_are_sets = (
  λ a b k. (either a b k, both_ways a b k),
  λ w a b below_a below_b same. same_from_bits_below w a b below_a below_b (λ k lt. same_bit a b k (same k lt)),
)
