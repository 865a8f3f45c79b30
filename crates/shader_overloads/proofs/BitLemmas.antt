-- The lowest set bit of a number, and the list of its set bits.
use Rattle.std.proofs.Common.{length, ◌≡◌, ◌≢◌, ℕ, zero, suc, ◌+◌, ◌-◌, ◌*◌, ◌/◌, ◌%◌, ◌^◌, ◌<◌, ◌≤◌, Bool, true, false}
use Rattle.std.proofs.Common.{cond, List, [], ◌∷◌, map, refl, sym, ◌∙◌, ap, arith, bit_and, nat_eq, get_or, inl, inr}
use Rattle.std.proofs.Math.Nat.{pow-succ'}
use Rattle.std.proofs.lemmas.Nat.{pow_pos}
use Rattle.std.proofs.lemmas.List.{nil_from_length}
use Rattle.std.specs.Int.{bit_at, w16, w64, trailing_zeros}
use mir.Syntax.{Width}
use mir.Val.{bits}
use Rattle.std.specs.List.{filter, range_with_len}
use Rattle.std.proofs.lemmas.Bool.{cases_order, cases_lt}
use Rattle.std.proofs.lemmas.Nat.Bits.{bit_at-trailing_zeros, bit_at_and, bit_at_not, bit_at-lt, bit_at-pow_same, bit_at-pow_other}
use Rattle.std.proofs.lemmas.Nat.Bits.{bit_at_ones_above, bit_at_cat_low, bit_at_cat_high, bit_at_above, same_from_bits, bit_at-zero}
use Rattle.shader_overloads.specs.Bits.{has_bit, one_bits, items_where}
use Rattle.shader_overloads.proofs.ListLemmas.{Front, items_where-front, items_where-none, items_where-split, first_within}

-- the lowest set bit of n is at `position`, below w, and `rest` is the number without it
pub record Lowest (w n : ℕ) : Type 0 where
  pub position : ℕ
  pub rest : ℕ
  pub below : position < w
  pub is : n ≡ rest * 2 ^ (suc position) + 2 ^ position

double : (w n : ℕ) → n ≡ 2 * (n / 2) → Lowest w (n / 2) → Lowest (suc w) n
double w n even l = record {
  position = suc l.position;
  rest = l.rest;
  below = omega arith;
  is = even ∙ ap (λ m. 2 * m) l.is ∙ rw (pow-succ' 2 (suc l.position), pow-succ' 2 l.position) (omega arith);
}

pub lowest : (w n : ℕ) → 0 < n → n < 2 ^ w → Lowest w n
lowest zero n some fits = absurd (omega arith)
lowest (suc w) n some fits =
    let half : n < 2 * 2 ^ w = rw (← pow-succ' 2 w) fits in
    elim (cases_lt 0 (n % 2)) [
      | inl odd ↦ record { position = 0; rest = n / 2; below = omega arith; is = omega arith }
      | inr even ↦ double w n (omega arith) (lowest w (n / 2) (omega arith) (omega arith))
    ]

-- bit i of a number whose bits from suc k on are those of a
below_position : (a k b i : ℕ) → i < suc k → bit_at (a * 2 ^ suc k + b) i ≡ bit_at b i
below_position a k b i h = bit_at_cat_low a (suc k) b i h

module _ (n k a : ℕ) (is : n ≡ a * 2 ^ suc k + 2 ^ k) where
  one_less : n - 1 ≡ a * 2 ^ suc k + (2 ^ k - 1)
  one_less = let p : 0 < 2 ^ k = pow_pos k in omega arith

  small : 2 ^ k < 2 ^ suc k
  small = let p : 0 < 2 ^ k = pow_pos k in rw (pow-succ' 2 k) (omega arith)

  pub bit_low : (i : ℕ) → i < suc k → bit_at n i ≡ bit_at (2 ^ k) i
  bit_low i h = ap (λ m. bit_at m i) is ∙ bit_at_cat_low a (suc k) (2 ^ k) i h

  bit_high : (i : ℕ) → k < i → bit_at n i ≡ bit_at a (i - suc k)
  bit_high i h = ap (λ m. bit_at m i) is ∙ bit_at_cat_high a (suc k) (2 ^ k) i small (omega arith)

  less_low : (i : ℕ) → i < suc k → bit_at (n - 1) i ≡ bit_at (2 ^ k - 1) i
  less_low i h = ap (λ m. bit_at m i) one_less ∙ bit_at_cat_low a (suc k) (2 ^ k - 1) i h

  less_high : (i : ℕ) → k < i → bit_at (n - 1) i ≡ bit_at a (i - suc k)
  less_high i h = ap (λ m. bit_at m i) one_less ∙ bit_at_cat_high a (suc k) (2 ^ k - 1) i (omega (arith, small)) (omega arith)

  -- the number without its lowest bit
  pub rest_low : (i : ℕ) → i ≤ k → bit_at (bit_and n (n - 1)) i ≡ 0
  rest_low i h = elim (cases_order i k) [
    | inl e ↦ let z : bit_at (n - 1) i ≡ 0 = less_low i (omega arith) ∙ ap (bit_at (2 ^ k - 1)) e ∙ bit_at_ones_above k k (omega arith) in
        omega (arith, bit_at_and n (n - 1) i)
    | inr o ↦ elim o [
      | inl l ↦ let z : bit_at n i ≡ 0 = bit_low i (omega arith) ∙ bit_at-pow_other k i (λ e. omega arith) in
          omega (arith, bit_at_and n (n - 1) i)
      | inr l ↦ omega arith
    ]
  ]

  pub rest_high : (i : ℕ) → k < i → bit_at (bit_and n (n - 1)) i ≡ bit_at n i
  rest_high i h = omega (arith, bit_at_and n (n - 1) i, bit_high i h, less_high i h)

  pub item_is : (w : Width) → n < 2 ^ bits w → k < bits w → bit_and n (2 ^ bits w - 1 - (n - 1)) ≡ 2 ^ k
  item_is w fits within = same_from_bits _ _ (λ i. elim (cases_lt i (bits w)) [
    | inr far ↦ bit_at_and n (2 ^ bits w - 1 - (n - 1)) i ∙ omega (
      arith,
      bit_at_above n (bits w) i fits far,
      bit_at-pow_other k i (λ e. omega arith),
    )
    | inl near ↦
        let two : bit_at (2 ^ bits w - 1 - (n - 1)) i ≡ 1 - bit_at (n - 1) i = bit_at_not w (n - 1) i (omega arith) near in
        let both = bit_at_and n (2 ^ bits w - 1 - (n - 1)) i in
        elim (cases_order i k) [
          | inl e ↦
              let z : bit_at (n - 1) i ≡ 0 = less_low i (omega arith) ∙ ap (bit_at (2 ^ k - 1)) e ∙ bit_at_ones_above k k (omega arith) in
              let o : bit_at n i ≡ bit_at (2 ^ k) i = bit_low i (omega arith) in
              let p : bit_at (2 ^ k) i ≡ 1 = ap (bit_at (2 ^ k)) e ∙ bit_at-pow_same k in
              omega arith
          | inr o ↦ elim o [
            | inl l ↦
                let z : bit_at (2 ^ k) i ≡ 0 = bit_at-pow_other k i (λ e. omega arith) in
                let y : bit_at n i ≡ bit_at (2 ^ k) i = bit_low i (omega arith) in
                omega arith
            | inr l ↦ omega (arith, bit_high i l, less_high i l, bit_at-lt a (i - suc k), bit_at-pow_other k i (λ e. omega arith))
          ]
        ]
  ])

-- the first number of a run that passes p, if q passes only those after it
module _ (p q : ℕ → Bool) (k : ℕ) (none : (i : ℕ) → i < k → p i ≡ false) (here : p k ≡ true) (gone : (i : ℕ) → i ≤ k →
    q i ≡ false) (same : (i : ℕ) → k < i → q i ≡ p i) where
  after_first : (s w : ℕ) → k < s → filter p (range_with_len s w) ≡ filter q (range_with_len s w)
  after_first s zero h = refl
  after_first s (suc w) h = rw (same s h) (ap (λ (t : List ℕ). cond (p s) (s ∷ t) t) (after_first (s + 1) w (omega arith)))

  pub from_first : (s w : ℕ) → s ≤ k → k < s + w → filter p (range_with_len s w) ≡ k ∷ filter q (range_with_len s w)
  from_first s zero h l = absurd (omega arith)
  from_first s (suc w) h l = elim (cases_order s k) [
    | inl e ↦ rw (e, here, gone k (omega arith)) (ap (λ (t : List ℕ). k ∷ t) (after_first (k + 1) w (omega arith)))
    | inr o ↦ elim o [
      | inl b ↦ rw (none s b, gone s (omega arith)) (from_first (s + 1) w (omega arith) (omega arith))
      | inr b ↦ absurd (omega arith)
    ]
  ]

step_at : (n : ℕ) → n < 2 ^ 64 → Lowest 64 n → one_bits n ≡ bit_and n (2 ^ 64 - 1 - (n - 1)) ∷ one_bits (bit_and n (n - 1))
unfolding one_bits
step_at n fits l =
    ap (map (λ k. 2 ^ k)) (from_first (has_bit n) (has_bit (bit_and n (n - 1))) l.position
    (λ i h. ap (λ d. nat_eq d 1) (bit_low n l.position l.rest l.is i (omega arith) ∙ bit_at-pow_other l.position i (λ e. omega arith)))
    (ap (λ d. nat_eq d 1) (bit_low n l.position l.rest l.is l.position (omega arith) ∙ bit_at-pow_same l.position))
    (λ i h. ap (λ d. nat_eq d 1) (rest_low n l.position l.rest l.is i h))
    (λ i h. ap (λ d. nat_eq d 1) (rest_high n l.position l.rest l.is i h))
    0 64 (omega arith) (omega (arith, l.below)))
    ∙ ap (λ (x : ℕ). x ∷ one_bits (bit_and n (n - 1))) (sym (item_is n l.position l.rest l.is w64 fits l.below))

-- the next set bit and the remaining ones
pub one_bits_step : (n : ℕ) → n < 2 ^ 64 → 0 < n → one_bits n ≡ bit_and n (2 ^ 64 - 1 - (n - 1)) ∷ one_bits (bit_and n (n - 1))
one_bits_step n fits some = step_at n fits (lowest 64 n some fits)

pub one_bits_none : one_bits 0 ≡ []
unfolding one_bits
one_bits_none = refl

-- ---- sets of 16 bits

-- the lowest set bit of a set, the set of it alone, and the set of the others
pub record SplitAt (n t : ℕ) : Type 0 where
  pub none : (i : ℕ) → i < t → has_bit n i ≡ false
  pub here : has_bit n t ≡ true
  pub item : bit_and n (2 ^ 16 - 1 - (n - 1)) ≡ 2 ^ t
  pub gone : (i : ℕ) → i ≤ t → has_bit (bit_and n (n - 1)) i ≡ false
  pub same : (i : ℕ) → t < i → has_bit (bit_and n (n - 1)) i ≡ has_bit n i

split_at : (n : ℕ) → n < 2 ^ 16 → (l : Lowest 16 n) → SplitAt n l.position
split_at n fits l = record {
  none = λ i h. ap (λ d. nat_eq d 1) (bit_low n l.position l.rest l.is i (omega arith) ∙ bit_at-pow_other l.position i (λ e. omega arith));
  here = ap (λ d. nat_eq d 1) (bit_low n l.position l.rest l.is l.position (omega arith) ∙ bit_at-pow_same l.position);
  item = item_is n l.position l.rest l.is w16 fits l.below;
  gone = λ i h. ap (λ d. nat_eq d 1) (rest_low n l.position l.rest l.is i h);
  same = λ i h. ap (λ d. nat_eq d 1) (rest_high n l.position l.rest l.is i h);
}

-- the first element of a set, the set of it alone, and the set of the others
pub record Split {X : Type 0} (n : ℕ) (xs : List X) : Type 0 where
  pub first : X
  pub alone : items_where (has_bit (bit_and n (2 ^ 16 - 1 - (n - 1)))) xs ≡ first ∷ []
  pub whole : items_where (has_bit n) xs ≡ first ∷ items_where (has_bit (bit_and n (n - 1))) xs

pub some_bit : {X : Type 0} (n : ℕ) (xs : List X) → items_where (has_bit n) xs ≢ [] → 0 < n
some_bit n xs some = elim (cases_lt 0 n) [
  | inl more ↦ more
  | inr least ↦ absurd (some (items_where-none (has_bit n) xs (λ i h. let e : n ≡ 0 = omega arith in
      ap (λ m. has_bit m i) e ∙ ap (λ b. nat_eq b 1) (bit_at-zero i))))
]

pub split : {X : Type 0} (n : ℕ) (xs : List X) (d : X) → n < 2 ^ 16 → items_where (has_bit n) xs ≢ [] → Split n xs
split n xs d fits some =
    let l = lowest 16 n (some_bit n xs some) fits in
    let s = split_at n fits l in
    let within = first_within (has_bit n) xs l.position s.none some in
    record {
      first = get_or xs l.position d;
      alone = ap (λ m. items_where (has_bit m) xs) s.item ∙ items_where-split (has_bit (2 ^ l.position)) (λ _. false) xs l.position d
          (λ i h. ap (λ b. nat_eq b 1) (bit_at-pow_other l.position i (λ e. omega arith)))
          (ap (λ b. nat_eq b 1) (bit_at-pow_same l.position))
          (λ i h. refl) (λ i h. sym (ap (λ b. nat_eq b 1) (bit_at-pow_other l.position i (λ e. omega arith)))) within
          ∙ ap (λ ys. get_or xs l.position d ∷ ys) (items_where-none (λ _. false) xs (λ i h. refl));
      whole = items_where-split (has_bit n) (has_bit (bit_and n (n - 1))) xs l.position d s.none s.here s.gone s.same within;
    }

-- the number of zeros below the lowest set bit is the position of the first element
pub first_element : {X : Type 0} (w : Width) (n : ℕ) (xs : List X) (d : X) → n < 2 ^ bits w → items_where (has_bit n) xs ≢ [] →
    (trailing_zeros w n < length xs) × Front (items_where (has_bit n) xs) xs (trailing_zeros w n) d
first_element w n xs d fits some =
    let facts = bit_at-trailing_zeros w n (some_bit n xs some) fits in
    let none : (i : ℕ) → i < trailing_zeros w n → has_bit n i ≡ false = λ i h. ap (λ b. nat_eq b 1) (facts.2 i h) in
    let within = first_within (has_bit n) xs (trailing_zeros w n) none some in
    (within, items_where-front (has_bit n) xs (trailing_zeros w n) d none (ap (λ b. nat_eq b 1) facts.1) within)

-- one step over the members of a set, each seen as a list of one element
pub members_step : {X : Type 0} (n : ℕ) (xs : List X) (d : X) → n < 2 ^ 16 → items_where (has_bit n) xs ≢ [] →
    map (λ x. x ∷ []) (items_where (has_bit n) xs) ≡ items_where (has_bit (bit_and n (2 ^ 16 - 1 - (n - 1)))) xs
    ∷ map (λ x. x ∷ []) (items_where (has_bit (bit_and n (n - 1))) xs)
members_step n xs d fits some =
    let s = split n xs d fits some in
    ap (map (λ x. x ∷ [])) s.whole ∙ ap (λ ys. ys ∷ map (λ x. x ∷ []) (items_where (has_bit (bit_and n (n - 1))) xs)) (sym s.alone)

-- a set has one element exactly if none remains without its first
pub single : {X : Type 0} {n : ℕ} {xs : List X} → Split n xs →
    (items_where (has_bit (bit_and n (n - 1))) xs ≡ [] → length (items_where (has_bit n) xs) ≡ 1) ×
    (length (items_where (has_bit n) xs) ≡ 1 → items_where (has_bit (bit_and n (n - 1))) xs ≡ [])
single {n = n} {xs = xs} s = (
  λ none. ap length (s.whole ∙ ap (λ ys. s.first ∷ ys) none),
  λ one. nil_from_length (items_where (has_bit (bit_and n (n - 1))) xs) (omega (arith, ap length s.whole, one)),
)
