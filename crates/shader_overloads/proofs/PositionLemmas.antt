-- The numbers of a mask of three words.
use Rattle.std.proofs.Common.{◌≡◌, ℕ, ◌+◌, ◌-◌, ◌*◌, ◌%◌, ◌^◌, ◌<◌, ◌≤◌, Bool, true, false, not, ◌&&◌, ◌||◌}
use Rattle.std.proofs.Common.{refl, sym, ◌∙◌, ap, arith, inl, inr, bit_and, bit_or, nat_eq, nat_lt, subst}
use Rattle.std.specs.Int.{bit_at, w64, trailing_zeros}
use Rattle.std.proofs.lemmas.Bool.{cases_lt, cases_order, cases_eq, eq-eqb, eqb-false, ne_eqb, lt-ltb, le-ltb}
use Rattle.std.proofs.lemmas.Nat.{and_le_r, mod_below, pow_pos}
use Rattle.std.proofs.lemmas.Nat.Bits.{bit_at-pow_other, bit_at-pow_same, bit_at-lt, bit_at-trailing_zeros, bit_at-zero}
use Rattle.std.proofs.lemmas.Nat.Bits.{bit_at_above, bit_at_cat_high, bit_at_cat_low, same_from_bits}
use Rattle.shader_overloads.specs.declared.mask.Mask.{Mask}
use Rattle.shader_overloads.specs.Bits.{has_bit}
use Rattle.shader_overloads.specs.Masks.{IsBelow, IsTaken, has_position}
use Rattle.shader_overloads.proofs.BitLemmas.{Lowest, bit_low, lowest, rest_high, rest_low}
use Rattle.shader_overloads.proofs.DigitLemmas.{low_bits}
use Rattle.shader_overloads.proofs.MaskLemmas.{with_bit}
use Rattle.shader_overloads.proofs.SetLemmas.{has_bit-and}

and_true : (b : Bool) → b ≡ (b && true)
and_true true = refl
and_true false = refl

and_false : (b : Bool) → false ≡ (b && false)
and_false true = refl
and_false false = refl

-- ---- adding a number

-- a bit set in a word whose first position is a
with_bit_at : (a n p k : ℕ) → a ≤ p → p < a + 64 → a ≤ k →
    has_bit (bit_or n (1 * 2 ^ (p - a) % 2 ^ 64)) (k - a) ≡ (nat_eq k p || has_bit n (k - a))
with_bit_at a n p k low high at = with_bit n (p - a) (k - a) (omega arith) ∙ ap (λ b. b || has_bit n (k - a)) (elim (cases_eq k p) [
  | inl e ↦ rw (e, eq-eqb p p refl) (eq-eqb (p - a) (p - a) refl)
  | inr ne ↦ rw (ne_eqb k p ne) (ne_eqb (k - a) (p - a) (λ e. ne (omega arith)))
])

other : (k p : ℕ) (b : Bool) → (k ≡ p → ⊥) → b ≡ (nat_eq k p || b)
other k p b ne = rw (ne_eqb k p ne) refl

module _ (mask : Mask) (p k : ℕ) where
  pub insert_low : p < 64 → has_position (record { low = bit_or mask.low (1 * 2 ^ p % 2 ^ 64); middle = mask.middle; high = mask.high }) k
      ≡ (nat_eq k p || has_position mask k)
  unfolding has_position
  insert_low h = elim (cases_lt k 64) [
    | inl l ↦ rw (lt-ltb k 64 l) (with_bit mask.low p k h)
    | inr g ↦ rw (le-ltb k 64 g) (other k p _ (λ e. omega arith))
  ]

  pub insert_middle : 64 ≤ p → p < 128 → has_position (record {
    low = mask.low;
    middle = bit_or mask.middle (1 * 2 ^ (p - 64) % 2 ^ 64);
    high =
        mask.high;
  }) k ≡ (nat_eq k p || has_position mask k)
  unfolding has_position
  insert_middle low high = elim (cases_lt k 64) [
    | inl l ↦ rw (lt-ltb k 64 l) (other k p _ (λ e. omega arith))
    | inr g ↦ elim (cases_lt k 128) [
      | inl l ↦ rw (le-ltb k 64 g, lt-ltb k 128 l) (with_bit_at 64 mask.middle p k low high g)
      | inr f ↦ rw (le-ltb k 64 g, le-ltb k 128 f) (other k p _ (λ e. omega arith))
    ]
  ]

  pub insert_high : 128 ≤ p → p < 192 → has_position (record {
    low = mask.low;
    middle = mask.middle;
    high =
        bit_or mask.high (1 * 2 ^ (p - 128) % 2 ^ 64);
  }) k ≡ (nat_eq k p || has_position mask k)
  unfolding has_position
  insert_high low high = elim (cases_lt k 64) [
    | inl l ↦ rw (lt-ltb k 64 l) (other k p _ (λ e. omega arith))
    | inr g ↦ elim (cases_lt k 128) [
      | inl l ↦ rw (le-ltb k 64 g, lt-ltb k 128 l) (other k p _ (λ e. omega arith))
      | inr f ↦ rw (le-ltb k 64 g, le-ltb k 128 f) (with_bit_at 128 mask.high p k low high f)
    ]
  ]

-- ---- removing the least number

-- the zeros below the lowest set bit end at it
zeros_end : (n : ℕ) (some : 0 < n) (fits : n < 2 ^ 64) (l : Lowest 64 n) → trailing_zeros w64 n ≡ l.position
zeros_end n some fits l =
    let facts = bit_at-trailing_zeros w64 n some fits in
    let t = trailing_zeros w64 n in
    elim (cases_order t l.position) [
      | inl e ↦ e
      | inr o ↦ elim o [
        | inl less ↦
            let absent : bit_at n t ≡ 0 = bit_low n l.position l.rest l.is t (omega arith)
            ∙ bit_at-pow_other l.position t (λ e. omega arith) in
            absurd (omega (arith, absent, facts.1))
        | inr more ↦
            let present : bit_at n l.position ≡ 1 = bit_low n l.position l.rest l.is l.position (omega arith)
            ∙ bit_at-pow_same l.position in
            let absent = facts.2 l.position more in
            absurd (omega (arith, absent, present))
      ]
    ]

-- a word without its lowest set bit
cleared : (n k : ℕ) → 0 < n → n < 2 ^ 64 → has_bit (bit_and n (n - 1)) k ≡ (has_bit n k && not (nat_eq k (trailing_zeros w64 n)))
cleared n k some fits =
    let l = lowest 64 n some fits in
    let end = zeros_end n some fits l in
    let facts = bit_at-trailing_zeros w64 n some fits in
    elim (cases_order k (trailing_zeros w64 n)) [
      | inl e ↦
          ap (λ d. nat_eq d 1) (rest_low n l.position l.rest l.is k (omega arith))
          ∙ and_false (has_bit n k) ∙ ap (λ b. has_bit n k && not b) (sym (eq-eqb k (trailing_zeros w64 n) e))
      | inr o ↦ elim o [
        | inl less ↦
            let absent : has_bit n k ≡ false = ap (λ d. nat_eq d 1) (facts.2 k less) in
            ap (λ d. nat_eq d 1) (rest_low n l.position l.rest l.is k (omega arith))
            ∙ ap (λ b. b && not (nat_eq k (trailing_zeros w64 n))) (sym absent)
        | inr more ↦
            ap (λ d. nat_eq d 1) (rest_high n l.position l.rest l.is k (omega arith))
            ∙ and_true (has_bit n k) ∙ ap (λ b. has_bit n k && not b) (sym (ne_eqb k (trailing_zeros w64 n) (λ e. omega arith)))
      ]
    ]

retained : (k p : ℕ) (b : Bool) → (k ≡ p → ⊥) → b ≡ (b && not (nat_eq k p))
retained k p b ne = and_true b ∙ ap (λ v. b && not v) (sym (ne_eqb k p ne))

-- a word whose first position is a, without its lowest set bit
cleared_at : (a n k : ℕ) → 0 < n → n < 2 ^ 64 → a ≤ k → has_bit (bit_and n (n - 1)) (k - a)
    ≡ (has_bit n (k - a) && not (nat_eq k (a + trailing_zeros w64 n)))
cleared_at a n k some fits at =
    let t = trailing_zeros w64 n in
    cleared n (k - a) some fits ∙ ap (λ b. has_bit n (k - a) && not b) (elim (cases_eq k (a + t)) [
      | inl e ↦ eq-eqb (k - a) t (omega arith) ∙ sym (eq-eqb k (a + t) e)
      | inr ne ↦ ne_eqb (k - a) t (λ e. ne (omega arith)) ∙ sym (ne_eqb k (a + t) ne)
    ])

no_bit : (n k : ℕ) → n ≡ 0 → has_bit n k ≡ false
no_bit n k e = ap (λ m. has_bit m k) e ∙ ap (λ d. nat_eq d 1) (bit_at-zero k)

-- the lowest bit of a word is set within the word, with no bit below it
record Bottom (n : ℕ) : Type 0 where
  within : trailing_zeros w64 n < 64
  here : has_bit n (trailing_zeros w64 n) ≡ true
  least : (k : ℕ) → k < trailing_zeros w64 n → has_bit n k ≡ false
  fewer : bit_and n (n - 1) < n

bottom : (n : ℕ) → 0 < n → n < 2 ^ 64 → Bottom n
bottom n some fits =
    let facts = bit_at-trailing_zeros w64 n some fits in
    record {
      within = facts.0;
      here = ap (λ d. nat_eq d 1) facts.1;
      least = λ k h. ap (λ d. nat_eq d 1) (facts.2 k h);
      fewer = omega (arith, and_le_r n (n - 1));
    }

module _ (mask : Mask) where
  pub taken_low : 0 < mask.low → mask.low < 2 ^ 64 → IsTaken mask (trailing_zeros w64 mask.low)
      (record { low = bit_and mask.low (mask.low - 1); middle = mask.middle; high = mask.high })
  unfolding has_position
  taken_low some fits =
      let b = bottom mask.low some fits in
      let t = trailing_zeros w64 mask.low in
      record {
        within = omega (arith, b.within);
        first = record {
          here = rw (lt-ltb t 64 b.within) b.here;
          least = λ k h. rw (lt-ltb k 64 (omega (arith, b.within))) (b.least k h);
        };
        others = λ k. elim (cases_lt k 64) [
          | inl l ↦ rw (lt-ltb k 64 l) (cleared mask.low k some fits)
          | inr g ↦ rw (le-ltb k 64 g) (retained k t _ (λ e. omega (arith, b.within)))
        ];
        fewer = omega (arith, b.fewer);
      }

  pub taken_middle : mask.low ≡ 0 → 0 < mask.middle → mask.middle < 2 ^ 64 →
      IsTaken mask (64 + trailing_zeros w64 mask.middle) (record {
        low = mask.low;
        middle =
            bit_and mask.middle (mask.middle - 1);
        high = mask.high;
      })
  unfolding has_position
  taken_middle none some fits =
      let b = bottom mask.middle some fits in
      let t = trailing_zeros w64 mask.middle in
      let back : 64 + t - 64 ≡ t = omega arith in
      record {
        within = omega (arith, b.within);
        first = record {
          here = rw (le-ltb (64 + t) 64 (omega arith), lt-ltb (64 + t) 128 (omega (arith, b.within)), back) b.here;
          least = λ k h. elim (cases_lt k 64) [
            | inl l ↦ rw (lt-ltb k 64 l) (no_bit mask.low k none)
            | inr g ↦ rw (le-ltb k 64 g, lt-ltb k 128 (omega (arith, b.within))) (b.least (k - 64) (omega arith))
          ];
        };
        others = λ k. elim (cases_lt k 64) [
          | inl l ↦ rw (lt-ltb k 64 l) (retained k (64 + t) _ (λ e. omega arith))
          | inr g ↦ elim (cases_lt k 128) [
            | inl l ↦ rw (le-ltb k 64 g, lt-ltb k 128 l) (cleared_at 64 mask.middle k some fits g)
            | inr f ↦ rw (le-ltb k 64 g, le-ltb k 128 f) (retained k (64 + t) _ (λ e. omega (arith, b.within)))
          ]
        ];
        fewer = omega (arith, b.fewer);
      }

  pub taken_high : mask.low ≡ 0 → mask.middle ≡ 0 → 0 < mask.high → mask.high < 2 ^ 64 →
      IsTaken mask (128 + trailing_zeros w64 mask.high) (record {
        low = mask.low;
        middle = mask.middle;
        high =
            bit_and mask.high (mask.high - 1);
      })
  unfolding has_position
  taken_high none nor some fits =
      let b = bottom mask.high some fits in
      let t = trailing_zeros w64 mask.high in
      let back : 128 + t - 128 ≡ t = omega arith in
      record {
        within = omega (arith, b.within);
        first = record {
          here = rw (le-ltb (128 + t) 64 (omega arith), le-ltb (128 + t) 128 (omega arith), back) b.here;
          least = λ k h. elim (cases_lt k 64) [
            | inl l ↦ rw (lt-ltb k 64 l) (no_bit mask.low k none)
            | inr g ↦ elim (cases_lt k 128) [
              | inl l ↦ rw (le-ltb k 64 g, lt-ltb k 128 l) (no_bit mask.middle (k - 64) nor)
              | inr f ↦ rw (le-ltb k 64 g, le-ltb k 128 f) (b.least (k - 128) (omega arith))
            ]
          ];
        };
        others = λ k. elim (cases_lt k 64) [
          | inl l ↦ rw (lt-ltb k 64 l) (retained k (128 + t) _ (λ e. omega arith))
          | inr g ↦ elim (cases_lt k 128) [
            | inl l ↦ rw (le-ltb k 64 g, lt-ltb k 128 l) (retained k (128 + t) _ (λ e. omega arith))
            | inr f ↦ rw (le-ltb k 64 g, le-ltb k 128 f) (cleared_at 128 mask.high k some fits f)
          ]
        ];
        fewer = omega (arith, b.fewer);
      }

-- ---- intersection

pub position_of_both : (a b : Mask) (k : ℕ) → has_position (record {
  low = bit_and a.low b.low;
  middle = bit_and a.middle b.middle;
  high =
      bit_and a.high b.high;
}) k ≡ (has_position a k && has_position b k)
unfolding has_position
position_of_both a b k = elim (cases_lt k 64) [
  | inl l ↦ rw (lt-ltb k 64 l) (has_bit-and a.low b.low k)
  | inr g ↦ elim (cases_lt k 128) [
    | inl l ↦ rw (le-ltb k 64 g, lt-ltb k 128 l) (has_bit-and a.middle b.middle (k - 64))
    | inr f ↦ rw (le-ltb k 64 g, le-ltb k 128 f) (has_bit-and a.high b.high (k - 128))
  ]
]

-- ---- all numbers below a count

same_order : (a k count : ℕ) → a ≤ k → nat_lt (k - a) (count - a) ≡ nat_lt k count
same_order a k count h = elim (cases_lt k count) [
  | inl l ↦ lt-ltb (k - a) (count - a) (omega arith) ∙ sym (lt-ltb k count l)
  | inr g ↦ le-ltb (k - a) (count - a) (omega arith) ∙ sym (le-ltb k count g)
]

-- the words have a bit for each number below a count
pub positions_below : (mask : Mask) (count k : ℕ) → count ≤ 192
    → ((i : ℕ) → i < 64 → has_bit mask.low i ≡ nat_lt i count) → ((i : ℕ) → i < 64 → has_bit mask.middle i ≡ nat_lt i (count - 64)) →
    ((i : ℕ) → i < 64 → has_bit mask.high i ≡ nat_lt i (count - 128)) → ((i : ℕ) → 64 ≤ i → has_bit mask.high i ≡ false)
    → has_position mask k ≡ nat_lt k count
unfolding has_position
positions_below mask count k few low middle high above = elim (cases_lt k 64) [
  | inl l ↦ rw (lt-ltb k 64 l) (low k l)
  | inr g ↦ elim (cases_lt k 128) [
    | inl l ↦ rw (le-ltb k 64 g, lt-ltb k 128 l) (middle (k - 64) (omega arith) ∙ same_order 64 k count g)
    | inr f ↦ rw (le-ltb k 64 g, le-ltb k 128 f) (elim (cases_lt k 192) [
      | inl l ↦ high (k - 128) (omega arith) ∙ same_order 128 k count f
      | inr past ↦ above (k - 128) (omega arith) ∙ sym (le-ltb k count (omega arith))
    ])
  ]
]

-- ---- the words as one number

pub position_in_number : (mask : Mask) (n k : ℕ) → mask.low < 2 ^ 64 → mask.middle < 2 ^ 64 →
    n ≡ (mask.high * 2 ^ 64 + mask.middle) * 2 ^ 64 + mask.low → has_position mask k ≡ has_bit n k
unfolding has_position
position_in_number mask n k low_fits middle_fits is = elim (cases_lt k 64) [
  | inl l ↦ rw (lt-ltb k 64 l, is) (ap (λ d. nat_eq d 1) (sym (bit_at_cat_low (mask.high * 2 ^ 64 + mask.middle) 64 mask.low k l)))
  | inr g ↦
      let upper = bit_at_cat_high (mask.high * 2 ^ 64 + mask.middle) 64 mask.low k low_fits g in
      elim (cases_lt k 128) [
        | inl l ↦ rw (le-ltb k 64 g, lt-ltb k 128 l, is) (ap (λ d. nat_eq d 1)
            (sym (upper ∙ bit_at_cat_low mask.high 64 mask.middle (k - 64) (omega arith))))
        | inr f ↦
            let next : k - 64 - 64 ≡ k - 128 = omega arith in
            rw (le-ltb k 64 g, le-ltb k 128 f, is) (ap (λ d. nat_eq d 1)
            (sym (upper ∙ bit_at_cat_high mask.high 64 mask.middle (k - 64) middle_fits (omega arith) ∙ ap (bit_at mask.high) next)))
      ]
]

-- ---- the last number

high_bit : (mask : Mask) (i : ℕ) → has_position mask (128 + i) ≡ has_bit mask.high i
unfolding has_position
high_bit mask i =
    let back : 128 + i - 128 ≡ i = omega arith in
    rw (le-ltb (128 + i) 64 (omega arith), le-ltb (128 + i) 128 (omega arith), back) refl

zero_bit : (n i : ℕ) → has_bit n i ≡ false → bit_at n i ≡ 0
zero_bit n i none =
    let ne = eqb-false (bit_at n i) 1 none in
    omega (arith, bit_at-lt n i, ne)

-- a number without bits from w on
small_from_bits : (n w : ℕ) → ((i : ℕ) → w ≤ i → has_bit n i ≡ false) → n < 2 ^ w
small_from_bits n w none =
    let small : n % 2 ^ w < 2 ^ w = mod_below n (2 ^ w) (pow_pos w) in
    let same : n % 2 ^ w ≡ n = same_from_bits (n % 2 ^ w) n (λ i. elim (cases_lt i w) [
      | inl l ↦ low_bits n w i l
      | inr g ↦ bit_at_above (n % 2 ^ w) w i small g ∙ sym (zero_bit n i (none i g))
    ]) in
    subst (λ v. v < 2 ^ w) same small

pub high_from_below : (mask : Mask) → IsBelow mask 156 → mask.high < 2 ^ 28
high_from_below mask within = small_from_bits mask.high 28 (λ i h. sym (high_bit mask i) ∙ within (128 + i) (omega arith))

pub below_from_high : (mask : Mask) → mask.high < 2 ^ 28 → IsBelow mask 156
below_from_high mask small k past =
    let back : 128 + (k - 128) ≡ k = omega arith in
    ap (has_position mask) (sym back) ∙ high_bit mask (k - 128)
    ∙ ap (λ d. nat_eq d 1) (bit_at_above mask.high 28 (k - 128) small (omega arith))
