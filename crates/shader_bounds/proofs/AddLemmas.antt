-- Lemmas on additions to sets.
use Rattle.std.proofs.Common.{◌≡◌, ◌≢◌, refl, sym, subst, ap, ◌∙◌, ℕ, zero, suc, ◌<◌, ◌↔◌, ◌⊎◌, inl, inr}
use Rattle.std.proofs.Common.{Bool, true, false, not, List, [], ◌∷◌, Option, Some, None, Result, Ok, Err}
use Rattle.std.proofs.Common.{IfOk, OnOk, slice_set, length, arith, get_or-set_same, get_or-set_other}
use Rattle.std.specs.Bool.{MatchBool}
use Rattle.std.specs.HashSet.{HashSet, contains}
use Rattle.std.specs.List.{Contains, zip}
use Rattle.std.specs.List.Sorted.{IsPermutation}
use Rattle.std.specs.Prelude.{replicate}
use Rattle.std.proofs.lemmas.Bool.{cases_eq, false≢true}
use Rattle.shader_arena.specs.Positions.{is_member}
use Rattle.shader_analysis_spec.proofs.ListLemmas.{cases, here, nowhere, there}
use Rattle.shader_passes.proofs.PairLemmas.{puts}
use Rattle.shader_bounds.specs.Adds.{Adds, IsIn}
use Rattle.shader_bounds.specs.Checked.{IsLoadIndex}

-- adding one position
pub flag_set : (flags : List Bool) (i : ℕ) → i < length flags → Adds (IsIn flags) (IsIn (slice_set flags i true)) (λ e. i ≡ e)
flag_set flags i within = record { to = to; retained = retained; added = added }
  where
    same : is_member (slice_set flags i true) i ≡ true
    same = rw get_or-set_same

    other : (e : ℕ) → e ≢ i → is_member (slice_set flags i true) e ≡ is_member flags e
    other e apart = rw get_or-set_other

    to : (e : ℕ) → IsIn (slice_set flags i true) e → IsIn flags e ⊎ (i ≡ e)
    to e h = elim (cases_eq i e) [
      | inl is ↦ inr is
      | inr apart ↦ inl (sym (other e (λ is. apart (sym is))) ∙ h)
    ]

    retained : (e : ℕ) → IsIn flags e → IsIn (slice_set flags i true) e
    retained e h = elim (cases_eq i e) [
      | inl is ↦ let P : ℕ → Type 0 = λ v. IsIn (slice_set flags i true) v in subst P is same
      | inr apart ↦ other e (λ is. apart (sym is)) ∙ h
    ]

    added : (e : ℕ) → i ≡ e → IsIn (slice_set flags i true) e
    added e is = let P : ℕ → Type 0 = λ v. IsIn (slice_set flags i true) v in subst P is same

-- adding nothing
pub adds_none : (P W : ℕ → Type 0) → ((e : ℕ) → W e → ⊥) → Adds P P W
adds_none P W never = record { to = λ e h. inl h; retained = λ e h. h; added = λ e w. absurd (never e w) }

pub adds_as : (P Q V W : ℕ → Type 0) → ((e : ℕ) → V e ↔ W e) → Adds P Q V → Adds P Q W
adds_as P Q V W same g = record {
  to = λ e h. elim (g.to e h) [ inl old ↦ inl old | inr new ↦ inr ((same e).0 new) ];
  retained = g.retained;
  added = λ e w. g.added e ((same e).1 w);
}

-- one addition after another
pub adds_both : (P Q R V W : ℕ → Type 0) → Adds P Q V → Adds Q R W → Adds P R (λ e. V e ⊎ W e)
adds_both P Q R V W g h = record {
  to = λ e r. elim (h.to e r) [
    | inl q ↦ elim (g.to e q) [ inl p ↦ inl p | inr v ↦ inr (inl v) ]
    | inr w ↦ inr (inr w)
  ];
  retained = λ e p. h.retained e (g.retained e p);
  added = λ e both. elim both [ inl v ↦ h.retained e (g.added e v) | inr w ↦ h.added e w ];
}

pub adds_none_of : (P : ℕ → Type 0) → Adds P P (λ e. None ≡ Some e)
adds_none_of P = record { to = λ e h. inl h; retained = λ e h. h; added = λ e w. absurd (cc) }

pub adds_some_of : (P Q : ℕ → Type 0) (i : ℕ) → Adds P Q (λ e. i ≡ e) → Adds P Q (λ e. Some i ≡ Some e)
adds_some_of P Q i g = adds_as P Q (λ e. i ≡ e) (λ e. Some i ≡ Some e) (λ e. (λ is. cc, λ is. cc)) g

-- adding the operands of an image load, one after another
pub adds_load : (P Q R S T : ℕ → Type 0) (coordinate : ℕ) (array_index sample level : Option ℕ) → Adds P Q (λ e. coordinate ≡ e) →
    Adds Q R (λ e. array_index ≡ Some e) →
    Adds R S (λ e. sample ≡ Some e) → Adds S T (λ e. level ≡ Some e) → Adds P T (IsLoadIndex coordinate array_index sample level)
adds_load P Q R S T coordinate array_index sample level first second third fourth =
    let is_coordinate : ℕ → Type 0 = λ e. coordinate ≡ e in
    let is_array_index : ℕ → Type 0 = λ e. array_index ≡ Some e in
    let is_sample : ℕ → Type 0 = λ e. sample ≡ Some e in
    let is_level : ℕ → Type 0 = λ e. level ≡ Some e in
    adds_both P Q T is_coordinate (λ e. is_array_index e ⊎ (is_sample e ⊎ is_level e)) first
    (adds_both Q R T is_array_index (λ e. is_sample e ⊎ is_level e) second (adds_both R S T is_sample is_level third fourth))

-- one of the items contributes the position
abbrev pub Brings : {X : Type 0} → (X → ℕ → Type 0) → List X → ℕ → Type 0
Brings {X} W items e = (x : X) × Contains items x × W x e

module _ {X : Type 0} (W : X → ℕ → Type 0) where
  -- if the set and the contributions of the items are the whole, so are they after the next item
  pub brought : (x : X) (rest : List X) (All S T : ℕ → Type 0) → Adds (Brings W (x ∷ rest)) All S → Adds S T (W x) →
      Adds (Brings W rest) All T
  brought x rest All S T whole more = record {
    to = λ e h. elim (whole.to e h) [
      | inl brings ↦ elim (cases x rest brings.0 brings.1) [
        | inl is ↦ let P : X → Type 0 = λ v. W v e in inr (more.added e (subst P (sym is) brings.2))
        | inr later ↦ inl (brings.0, later, brings.2)
      ]
      | inr in_set ↦ inr (more.retained e in_set)
    ];
    retained = λ e brings. whole.retained e (brings.0, there x rest brings.0 brings.1, brings.2);
    added = λ e h. elim (more.to e h) [
      | inl old ↦ whole.added e old
      | inr new ↦ whole.retained e (x, here x rest, new)
    ];
  }

  -- at the end the set is the whole
  pub whole_of : (All S : ℕ → Type 0) → Adds (Brings W []) All S → (e : ℕ) → S e ↔ All e
  whole_of All S whole e = (
    λ h. whole.added e h,
    λ h. elim (whole.to e h)
        [ inl brings ↦ absurd (nowhere brings.0 brings.1) | inr in_set ↦ in_set ],
  )

  -- at the start the contributions of the items are the whole
  pub nothing_yet : (items : List X) (S : ℕ → Type 0) → ((e : ℕ) → S e → ⊥) → Adds (Brings W items) (Brings W items) S
  nothing_yet items S none = adds_none (Brings W items) S none

  -- the start with a set that isn't empty
  pub over_old : (items : List X) (S : ℕ → Type 0) → Adds (Brings W items) (λ e. S e ⊎ Brings W items e) S
  over_old items S = record {
    to = λ e h. elim h [ inl old ↦ inr old | inr brings ↦ inl brings ];
    retained = λ e brings. inr brings;
    added = λ e old. inl old;
  }

  pub added_all : (items : List X) (S T : ℕ → Type 0) → Adds (Brings W []) (λ e. S e ⊎ Brings W items e) T → Adds S T (Brings W items)
  added_all items S T whole =
      let same = whole_of (λ e. S e ⊎ Brings W items e) T whole in
      record { to = λ e h. (same e).0 h; retained = λ e h. (same e).1 (inl h); added = λ e h. (same e).1 (inr h) }

-- no flag is set
pub none_set : (count e : ℕ) → IsIn (replicate count false) e → ⊥
none_set zero e h = absurd (false≢true h)
none_set (suc count) zero h = absurd (false≢true h)
none_set (suc count) (suc e) h = none_set count e h

-- adding one key
pub key_put : {S : Type 0} {same : ℕ → ℕ → Bool} (s : HashSet ℕ S) (keys : List ℕ) (k : ℕ) (added : Bool) →
    MatchBool added (IsPermutation (k ∷ s.keys) keys) (keys ≡ s.keys) →
    added ≡ not (contains same s k) → ((x y : ℕ) → same x y ≡ true → x ≡ y) → Adds (Contains s.keys) (Contains keys) (λ e. k ≡ e)
key_put s keys k added put reported is =
    let members = puts is k s.keys keys added put reported in
    record {
      to = λ e h. elim (cases k s.keys e (members.to e h)) [ inl new ↦ inr new | inr old ↦ inl old ];
      retained = λ e h. members.from e (there k s.keys e h);
      added = λ e new. let P : ℕ → Type 0 = λ v. Contains (k ∷ s.keys) v in members.from e (subst P new (here k s.keys));
    }

module _ {X : Type 0} (W : X → ℕ → Type 0) where
  -- the next of the remaining items
  pub brought_at : (items : List X) (x : X) (rest : List X) (All S T : ℕ → Type 0) → items ≡ x ∷ rest → Adds (Brings W items) All S →
      Adds S T (W x) → Adds (Brings W rest) All T
  brought_at items x rest All S T is whole more =
      let P : List X → Type 0 = λ v. Adds (Brings W v) All S in
      brought W x rest All S T (subst P is whole) more

  -- no items remain
  pub whole_at : (items : List X) (All S : ℕ → Type 0) → items ≡ [] → Adds (Brings W items) All S → (e : ℕ) → S e ↔ All e
  whole_at items All S is whole = let P : List X → Type 0 = λ v. Adds (Brings W v) All S in whole_of W All S (subst P is whole)

  -- all contributions of the items are in the set
  pub added_at : (items left : List X) (S T : ℕ → Type 0) → left ≡ [] → Adds (Brings W left) (λ e. S e ⊎ Brings W items e) T →
      Adds S T (Brings W items)
  added_at items left S T is whole = let P : List X → Type 0 = λ v. Adds (Brings W v) (λ e. S e ⊎ Brings W items e) T in
      added_all W items S T (subst P is whole)

-- starting with nothing, the set contains exactly what is wanted
pub from_nothing : (S T W : ℕ → Type 0) → ((e : ℕ) → S e → ⊥) → Adds S T W → (e : ℕ) → T e ↔ W e
from_nothing S T W none g e = (λ h. elim (g.to e h) [ inl old ↦ absurd (none e old) | inr wanted ↦ wanted ], λ wanted. g.added e wanted)

-- the pairs of two lists, from the first on
pub zip_step : {X Y : Type 0} (xs xs' : List X) (ys ys' : List Y) (x : X) (y : Y) → xs ≡ x ∷ xs' → ys ≡ y ∷ ys' →
    zip xs ys ≡ (x, y) ∷ zip xs' ys'
zip_step xs xs' ys ys' x y is_x is_y = ap (λ v. zip v ys) is_x ∙ ap (λ v. zip (x ∷ xs') v) is_y

zip_none : {X Y : Type 0} (xs : List X) (ys : List Y) → ys ≡ [] → zip xs ys ≡ []
zip_none [] ys none = refl
zip_none (x ∷ xs) [] none = refl
zip_none (x ∷ xs) (y ∷ ys) none = absurd (cc)

empty_of : {X : Type 0} (xs : List X) → length xs ≡ 0 → xs ≡ []
empty_of [] none = refl
empty_of (x ∷ xs) none = absurd (omega (arith, none))

pub zip_ends : {X Y : Type 0} (xs : List X) (ys : List Y) → (length xs ≡ 0) ⊎ (length ys ≡ 0) → zip xs ys ≡ []
zip_ends xs ys (inl none) = ap (λ v. zip v ys) (empty_of xs none)
zip_ends xs ys (inr none) = zip_none xs ys (empty_of ys none)

-- a fact about an Ok result follows from another one
pub on_ok : {T E : Type 0} (r : Result T E) (A B : Type 0) → (A → B) → OnOk r A → OnOk r B
on_ok (Ok x) A B f a = f a
on_ok (Err e) A B f a = tt

pub if_ok : {T E : Type 0} (r : Result T E) (A B : T → Type 0) → ((x : T) → A x → B x) → IfOk r A → IfOk r B
if_ok (Ok x) A B f a = f x a
if_ok (Err e) A B f a = tt
