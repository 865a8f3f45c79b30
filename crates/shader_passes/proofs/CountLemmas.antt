-- The reference counts are the numbers of occurrences.
use Rattle.std.proofs.Common.{◌≡◌, ◌≢◌, refl, sym, ap, subst, ◌∙◌, ℕ, ◌+◌, ◌-◌, ◌^◌, ◌<◌, ◌≤◌, ◌⊎◌, inl, inr, List, []}
use Rattle.std.proofs.Common.{◌∷◌, ◌&&◌, nat_eq, Bool, true, false, if◌then◌else◌, IfSome, Option, Some, None, length, slice_index}
use Rattle.std.proofs.Common.{slice_set, slice_get, nat_lt, fold, arith, get_or-set_same, get_or-set_other, rules}
use Rattle.std.proofs.lemmas.Bool.{cases_eq}
use Rattle.std.proofs.lemmas.List.{get_or_past, get_or-replicate, length-replicate}
use Rattle.std.proofs.lemmas.Option.{slice_get-get_or}
use borrow.Author.Tests.{ltb-true, ltb-false}
use Rattle.std.proofs.lemmas.Bool.Decides.{nat_tests}
use Rattle.std.proofs.Math.ListN.{length-set}
use Rattle.std.specs.Prelude.{replicate}
use Rattle.shader_analysis_spec.specs.Counts.{one_of, times, count_of}
use Rattle.shader_analysis_spec.specs.Program.{Function, Label, occurrences}
use Rattle.shader_passes.specs.Facts.{Fact}
use Rattle.shader_passes.specs.CountsAndUses.{CountsAndUses, ref_counts_after, counts_after, is_full}

one_same : (i e : ℕ) → i ≡ e → one_of e i ≡ 1
one_same i e h = grind (arith, nat_tests)

one_other : (i e : ℕ) → i ≢ e → one_of e i ≡ 0
one_other i e h = grind (arith, nat_tests)

-- the counts after one more reference to i
bumped : (xs : List ℕ) (i e : ℕ) → e < length xs → slice_index (slice_set xs i (slice_index xs i + 1)) e ≡ slice_index xs e + one_of e i
bumped xs i e lt = elim (cases_eq i e) [
  | inl same ↦
      let P : ℕ → Type 0 = λ v. slice_index (slice_set xs v (slice_index xs v + 1)) e ≡ slice_index xs e + one_of e v in
      let at : slice_index (slice_set xs e (slice_index xs e + 1)) e ≡ slice_index xs e + 1 = rw get_or-set_same in
      subst P (sym same) (at ∙ ap (λ n. slice_index xs e + n) (sym (one_same e e refl)))
  | inr apart ↦
      let ne : e ≢ i = λ h. apart (sym h) in
      let at : slice_index (slice_set xs i (slice_index xs i + 1)) e ≡ slice_index xs e = rw get_or-set_other in
      omega (arith, at, one_other i e apart)
]

pub if_true : {A : Type 0} (b : Bool) (x y : A) → b ≡ true → (if b then x else y) ≡ x
if_true true x y h = refl
if_true false x y h = absurd (cc)

pub if_false : {A : Type 0} (b : Bool) (x y : A) → b ≡ false → (if b then x else y) ≡ y
if_false true x y h = absurd (cc)
if_false false x y h = refl

bumped_le : (xs : List ℕ) (i e : ℕ) → slice_index (slice_set xs i (slice_index xs i + 1)) e ≤ slice_index xs e + one_of e i
bumped_le xs i e = at (nat_lt e (length xs)) refl where
  at : (b : Bool) → nat_lt e (length xs) ≡ b → slice_index (slice_set xs i (slice_index xs i + 1)) e ≤ slice_index xs e + one_of e i
  at true h = let lt : e < length xs = omega (arith, ltb-true, h) in omega (arith, bumped xs i e lt)
  at false h =
      let long : length (slice_set xs i (slice_index xs i + 1)) ≡ length xs = search rules in
      let past : length (slice_set xs i (slice_index xs i + 1)) ≤ e = omega (arith, ltb-false, h, long) in
      omega (arith, get_or_past (slice_set xs i (slice_index xs i + 1)) e 0 past)

full_is : (counts : List ℕ) (i : ℕ) → is_full counts i ≡ true → slice_index counts i ≡ 2 ^ 64 - 1
full_is counts i h = grind (arith, nat_tests)

raised_long : (counts : List ℕ) (i : ℕ) → length (counts_after counts i) ≡ length counts
raised_long counts i = at (is_full counts i) refl where
  at : (b : Bool) → is_full counts i ≡ b → length (counts_after counts i) ≡ length counts
  at true h = ap length (if_true (is_full counts i) counts (slice_set counts i (slice_index counts i + 1)) h)
  at false h = ap length (if_false (is_full counts i) counts (slice_set counts i (slice_index counts i + 1)) h)
      ∙ length-set counts i (slice_index counts i + 1)

-- a count that isn't full has room
room : (counts : List ℕ) (i : ℕ) → is_full counts i ≡ false → slice_index counts i < 2 ^ 64 → slice_index counts i + 1 < 2 ^ 64
room counts i free lt = at (nat_lt i (length counts)) refl where
  at : (b : Bool) → nat_lt i (length counts) ≡ b → slice_index counts i + 1 < 2 ^ 64
  at true t =
      let P : Bool → Type 0 = λ b. (b && nat_eq (slice_index counts i) (2 ^ 64 - 1)) ≡ false in
      let other : nat_eq (slice_index counts i) (2 ^ 64 - 1) ≡ false = subst P t free in
      grind (arith, nat_tests, other, lt)
  at false t = let none = get_or_past counts i 0 (omega (arith, ltb-false, t)) in omega (arith, none)

-- each count stays small
raised_small : (counts : List ℕ) (i : ℕ) → ((e : ℕ) → slice_index counts e < 2 ^ 64) → (e : ℕ) →
    slice_index (counts_after counts i) e < 2 ^ 64
raised_small counts i small e = at (is_full counts i) refl where
  at : (b : Bool) → is_full counts i ≡ b → slice_index (counts_after counts i) e < 2 ^ 64
  at true full =
      let same = ap (λ v. slice_index v e) (if_true (is_full counts i) counts (slice_set counts i (slice_index counts i + 1)) full) in
      omega (arith, same, small e)
  at false free =
      let same = ap (λ v. slice_index v e) (if_false (is_full counts i) counts (slice_set counts i (slice_index counts i + 1)) free) in
      elim (cases_eq i e) [
        | inl here ↦
            let P : ℕ → Type 0 = λ v. slice_index counts v + 1 < 2 ^ 64 in
            let fits : slice_index counts e + 1 < 2 ^ 64 = subst P here (room counts i free (small i)) in
            omega (arith, same, bumped_le counts i e, one_same i e here, fits)
        | inr apart ↦ omega (arith, same, bumped_le counts i e, one_other i e apart, small e)
      ]

module _ (facts : List Fact) where
  -- no step changes the number of counts
  pub counts_long : (t : CountsAndUses) (os : List (ℕ × Label)) → length (fold (ref_counts_after facts) t os).0 ≡ length t.0
  counts_long t [] = refl
  counts_long t (o ∷ os) = counts_long (ref_counts_after facts t o) os ∙ raised_long t.0 o.0

  counted : (t : CountsAndUses) (os : List (ℕ × Label)) (e : ℕ) → e < length t.0 → (fold (ref_counts_after facts) t os).2 ≡ None →
      (t.2 ≡ None) × (slice_index (fold (ref_counts_after facts) t os).0 e ≡ slice_index t.0 e + times e os)
  counted t [] e lt h = (h, omega arith)
  counted t (o ∷ os) e lt h =
      at (is_full t.0 o.0) refl (counted (ref_counts_after facts t o) os e (omega (arith, raised_long t.0 o.0)) h) where
        at : (b : Bool) → is_full t.0 o.0 ≡ b →
            ((ref_counts_after facts t o).2 ≡ None)
            × (slice_index (fold (ref_counts_after facts) t (o ∷ os)).0 e ≡ slice_index (ref_counts_after facts t o).0 e + times e os) →
            (t.2 ≡ None) × (slice_index (fold (ref_counts_after facts) t (o ∷ os)).0 e ≡ slice_index t.0 e + times e (o ∷ os))
        at true f r =
            let s : (if is_full t.0 o.0 then Some o.0 else t.2) ≡ Some o.0 = if_true (is_full t.0 o.0) (Some o.0) t.2 f in
            let n = r.0 in absurd (cc)
        at false f r =
            let s : (if is_full t.0 o.0 then Some o.0 else t.2) ≡ t.2 = if_false (is_full t.0 o.0) (Some o.0) t.2 f in
            let c = if_false (is_full t.0 o.0) t.0 (slice_set t.0 o.0 (slice_index t.0 o.0 + 1)) f in
            let k = ap (λ v. slice_index v e) c in
            (sym s ∙ r.0, omega (arith, r.1, k, bumped t.0 o.0 e lt))

  full_at : (t : CountsAndUses) (os : List (ℕ × Label)) (e : ℕ) → (fold (ref_counts_after facts) t os).2 ≡ Some e →
      (t.2 ≡ Some e) ⊎ (2 ^ 64 ≤ slice_index t.0 e + times e os)
  full_at t [] e h = inl h
  full_at t (o ∷ os) e h = at (is_full t.0 o.0) refl (full_at (ref_counts_after facts t o) os e h) where
    at : (b : Bool) → is_full t.0 o.0 ≡ b →
        ((ref_counts_after facts t o).2 ≡ Some e) ⊎ (2 ^ 64 ≤ slice_index (ref_counts_after facts t o).0 e + times e os) →
        (t.2 ≡ Some e) ⊎ (2 ^ 64 ≤ slice_index t.0 e + times e (o ∷ os))
    at true f (inl r) =
        let s : (if is_full t.0 o.0 then Some o.0 else t.2) ≡ Some o.0 = if_true (is_full t.0 o.0) (Some o.0) t.2 f in
        let same : o.0 ≡ e = cc in
        let most = full_is t.0 o.0 f in
        let P : ℕ → Type 0 = λ v. slice_index t.0 v ≡ 2 ^ 64 - 1 in
        inr (omega (arith, subst P same most, one_same o.0 e same))
    at true f (inr r) =
        let c = if_true (is_full t.0 o.0) t.0 (slice_set t.0 o.0 (slice_index t.0 o.0 + 1)) f in
        let k = ap (λ v. slice_index v e) c in inr (omega (arith, r, k))
    at false f (inl r) =
        let s : (if is_full t.0 o.0 then Some o.0 else t.2) ≡ t.2 = if_false (is_full t.0 o.0) (Some o.0) t.2 f in inl (sym s ∙ r)
    at false f (inr r) =
        let c = if_false (is_full t.0 o.0) t.0 (slice_set t.0 o.0 (slice_index t.0 o.0 + 1)) f in
        let k = ap (λ v. slice_index v e) c in inr (omega (arith, r, k, bumped_le t.0 o.0 e))

counts_small : (facts : List Fact) (t : CountsAndUses) (os : List (ℕ × Label)) → ((e : ℕ) → slice_index t.0 e < 2 ^ 64) →
    (e : ℕ) → slice_index (fold (ref_counts_after facts) t os).0 e < 2 ^ 64
counts_small facts t [] small e = small e
counts_small facts t (o ∷ os) small e = counts_small facts (ref_counts_after facts t o) os (raised_small t.0 o.0 small) e

module _ (facts : List Fact) (f : Function) (n : ℕ) (ref_counts : CountsAndUses)
    (whole : ref_counts ≡ fold (ref_counts_after facts) (replicate (length f.expressions) 0, replicate n 0, None) (occurrences f)) where
  abbrev zeros : CountsAndUses
  zeros = (replicate (length f.expressions) 0, replicate n 0, None)

  zero_at : (e : ℕ) → slice_index (replicate (length f.expressions) 0) e ≡ 0
  zero_at e = at (nat_lt e (length f.expressions)) refl where
    at : (b : Bool) → nat_lt e (length f.expressions) ≡ b → slice_index (replicate (length f.expressions) 0) e ≡ 0
    at true h = get_or-replicate (length f.expressions) e 0 0 (omega (arith, ltb-true, h))
    at false h =
        let none_yet : ℕ = 0 in
        get_or_past (replicate (length f.expressions) none_yet) e 0
        (omega (arith, ltb-false, h, length-replicate (length f.expressions) none_yet))

  pub long : length ref_counts.0 ≡ length f.expressions
  long =
      let none_yet : ℕ = 0 in
      ap (λ (v : CountsAndUses). length v.0) whole
      ∙ (counts_long facts zeros (occurrences f) ∙ length-replicate (length f.expressions) none_yet)

  counts_of : ref_counts.2 ≡ None → (e : ℕ) → e < length f.expressions → slice_index ref_counts.0 e ≡ count_of f e
  counts_of none e lt =
      let none_yet : ℕ = 0 in
      let long : length (replicate (length f.expressions) none_yet) ≡ length f.expressions =
      length-replicate (length f.expressions) none_yet in
      let r = counted facts zeros (occurrences f) e (omega (arith, long)) (sym (ap (λ (v : CountsAndUses). v.2) whole) ∙ none) in
      let k = ap (λ (v : CountsAndUses). slice_index v.0 e) whole in
      omega (arith, r.1, k, zero_at e)

  pub counts_are : ref_counts.2 ≡ None → (e : ℕ) → e < length f.expressions → slice_get ref_counts.0 e ≡ Some (count_of f e)
  counts_are none e lt =
      slice_get-get_or ref_counts.0 e 0 (omega (arith, long)) ∙ ap (λ (v : ℕ). Some v) (counts_of none e lt)

  pub full_of : (e : ℕ) → ref_counts.2 ≡ Some e → 2 ^ 64 ≤ count_of f e
  full_of e some = elim (full_at facts zeros (occurrences f) e (sym (ap (λ (v : CountsAndUses). v.2) whole) ∙ some)) [
    | inl never ↦ absurd (cc)
    | inr le ↦ omega (arith, zero_at e)
  ]

  pub full_reported : IfSome ref_counts.2 (λ e. 2 ^ 64 ≤ count_of f e)
  full_reported = at ref_counts.2 refl where
    at : (o : Option ℕ) → ref_counts.2 ≡ o → IfSome o (λ e. 2 ^ 64 ≤ count_of f e)
    at (Some e) some = full_of e some
    at None none = tt

  pub small : (e : ℕ) → slice_index ref_counts.0 e < 2 ^ 64
  small e =
      let is = ap (λ (v : CountsAndUses). slice_index v.0 e) whole in
      omega (arith, is, counts_small facts zeros (occurrences f) (λ d. omega (arith, zero_at d)) e)
