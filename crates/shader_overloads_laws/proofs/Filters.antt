-- Filtered lists, and the first element that is left.
use Rattle.std.proofs.Common.{◌≡◌, ◌∙◌, ap, refl, subst, inl, inr, ℕ, zero, suc, Bool, true, false}
use Rattle.std.proofs.Common.{cond, ◌&&◌, List, [], ◌∷◌, Some, slice_get}
use Rattle.std.specs.List.{filter, list_all, list_any}
use Rattle.std.proofs.lemmas.Bool.{and_from, and_parts, cases_Bool, or_from}

-- ---- conjunctions

pub and_true : (b : Bool) → (b && true) ≡ b
and_true true = refl
and_true false = refl

pub and_false : (b : Bool) → (b && false) ≡ false
and_false true = refl
and_false false = refl

pub regrouped : (a b c d : Bool) → ((a && b) && (c && d)) ≡ ((a && c) && (b && d))
regrouped true true c d = refl
regrouped true false true d = refl
regrouped true false false d = refl
regrouped false b c d = refl

-- ---- filters

pub filter_passes : {X : Type 0} (p : X → Bool) (xs : List X) → list_all p (filter p xs) ≡ true
filter_passes p [] = refl
filter_passes p (x ∷ xs) = elim (cases_Bool (p x)) [
  | inl here ↦ rw here (and_from _ _ here (filter_passes p xs))
  | inr gone ↦ rw gone (filter_passes p xs)
]

pub filter_preserves : {X : Type 0} (p q : X → Bool) (xs : List X) → list_all q xs ≡ true → list_all q (filter p xs) ≡ true
filter_preserves p q [] all = refl
filter_preserves p q (x ∷ xs) all =
    let both = and_parts (q x) (list_all q xs) all in
    elim (cases_Bool (p x)) [
      | inl here ↦ rw here (and_from _ _ both.0 (filter_preserves p q xs both.1))
      | inr gone ↦ rw gone (filter_preserves p q xs both.1)
    ]

-- two tests that agree on each element
pub filter_each : {X : Type 0} (p q : X → Bool) (xs : List X) → ((k : ℕ) (x : X) → slice_get xs k ≡ Some x → p x ≡ q x) →
    filter p xs ≡ filter q xs
filter_each p q [] same = refl
filter_each p q (x ∷ xs) same =
    ap (λ b. cond b (x ∷ filter p xs) (filter p xs)) (same zero x refl)
    ∙ ap (λ (rest : List _). cond (q x) (x ∷ rest) rest) (filter_each p q xs (λ k. same (suc k)))

pub filter_none : {X : Type 0} (p : X → Bool) (xs : List X) → ((x : X) → p x ≡ false) → filter p xs ≡ []
filter_none p [] none = refl
filter_none p (x ∷ xs) none = ap (λ b. cond b (x ∷ filter p xs) (filter p xs)) (none x) ∙ filter_none p xs none

pub filter_twice : {X : Type 0} (p q : X → Bool) (xs : List X) → filter p (filter q xs) ≡ filter (λ x. p x && q x) xs
filter_twice p q [] = refl
filter_twice p q (x ∷ xs) = elim (cases_Bool (q x)) [
  | inl here ↦ rw (here, and_true (p x)) (ap (λ (rest : List _). cond (p x) (x ∷ rest) rest) (filter_twice p q xs))
  | inr gone ↦ rw (gone, and_false (p x)) (filter_twice p q xs)
]

pub first_split : {X : Type 0} (xs : List X) (x : X) → slice_get xs 0 ≡ Some x → (later : List X) × (xs ≡ x ∷ later)
first_split [] x e = cc
first_split (y ∷ xs) x e = let same : y ≡ x = cc in (xs, ap (λ v. v ∷ xs) same)

-- ---- the first element left of any list in which each pair is fine

module _ {X : Type 0} (left : X → Bool) (unbeaten : X → X → Bool) (fine : List X → X → X → Bool) (self : (f : X) → unbeaten f f ≡ true)
    (good : (before : List X) (f g : X) → fine before f g ≡ true → left f ≡ true → left g ≡ true → list_any left before ≡ false →
    unbeaten f g ≡ true) where
  abbrev pub each_fine : List X → List X → Bool
  each_fine before [] = true
  each_fine before (f ∷ rest) = list_all (fine before f) rest && each_fine (f ∷ before) rest

  later_good : (before : List X) (f : X) (rest : List X) → list_all (fine before f) rest ≡ true → left f ≡ true →
      list_any left before ≡ false → list_all (unbeaten f) (filter left rest) ≡ true
  later_good before f [] all here none = refl
  later_good before f (g ∷ rest) all here none =
      let parts = and_parts (fine before f g) (list_all (fine before f) rest) all in
      let later = later_good before f rest parts.1 here none in
      elim (cases_Bool (left g)) [
        | inl there ↦ rw there (and_from _ _ (good before f g parts.0 here there none) later)
        | inr gone ↦ rw gone later
      ]

  pub first_of_left : (before rest : List X) → each_fine before rest ≡ true → list_any left before ≡ false → (first : X) (later : List X) →
      filter left rest ≡ first ∷ later → list_all (unbeaten first) (first ∷ later) ≡ true
  first_of_left before [] all none first later e = cc
  first_of_left before (f ∷ rest) all none first later e =
      let parts = and_parts (list_all (fine before f) rest) (each_fine (f ∷ before) rest) all in
      elim (cases_Bool (left f)) [
        | inl here ↦
            let d : f ∷ filter left rest ≡ first ∷ later = rw here at e in
            let head : f ≡ first = cc in
            let tail : filter left rest ≡ later = cc in
            let P : X → List X → Type 0 = λ x xs. list_all (unbeaten x) (x ∷ xs) ≡ true in
            subst (λ x. P x later) head (subst (λ xs. P f xs) tail (and_from _ _ (self f) (later_good before f rest parts.0 here none)))
        | inr gone ↦ first_of_left (f ∷ before) rest parts.1 (or_from _ _ gone none) first later (rw gone at e)
      ]
