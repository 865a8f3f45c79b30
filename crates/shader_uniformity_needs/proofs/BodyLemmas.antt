-- The search of one body: what its demands pass, and which of them are violated.
use Rattle.std.proofs.Common.{◌≡◌, refl, sym, subst, ℕ, ◌<◌, ◌==◌, ◌⊎◌, inl, inr, Bool, true, false, List, [], ◌∷◌, ◌++◌, Option}
use Rattle.std.proofs.Common.{if◌then◌else◌, length}
use Rattle.std.proofs.lemmas.Bool.{eqb-true}
use Rattle.std.proofs.lemmas.List.Elements.{Contains-append_left, Contains-append_right, Contains-append_cases}
use Rattle.std.proofs.lemmas.List.Sorted.{Contains-permutation, IsPermutation-sym}
use Rattle.std.specs.List.{Contains, flat_map}
use Rattle.std.specs.List.Sorted.{IsPermutation}
use Rattle.shader_uniformity.proofs.KnownLemmas.{here, nowhere, one, there}
use Rattle.shader_uniformity.specs.Cells.{holds}
use Rattle.shader_uniformity.specs.declared.facts.BodyLocation.{BodyLocation}
use Rattle.shader_uniformity.specs.declared.facts.Fact.{Fact}
use Rattle.shader_uniformity.specs.declared.facts.Rule.{Rule}
use Rattle.shader_uniformity_needs.proofs.NoteLemmas.{fact_same}
use Rattle.shader_uniformity_needs.specs.Notes.{begun_at, fact_for, fact_if, passed_to, violation_if, violations_of, HasFollowers, Notes}
use Rattle.shader_uniformity_needs.specs.Search.{IsFoundIn, IsPassed, Searches}
use Rattle.shader_uniformity_needs.specs.declared.needs.Need.{Need}
use Rattle.shader_uniformity_needs.specs.declared.needs.Pass.{Pass}
use Rattle.shader_uniformity_needs.specs.declared.needs.Violation.{Violation}
use Rattle.shader_uniformity_needs.specs.declared.search.Search.{Search}

-- what a list of lists has
in_flat_map : {X Y : Type 0} (f : X → List Y) (xs : List X) (y : Y) → Contains (flat_map f xs) y →
    (x : X) × Contains xs x × Contains (f x) y
in_flat_map f [] y h = absurd (nowhere y h)
in_flat_map f (x ∷ xs) y h = elim (Contains-append_cases (f x) (flat_map f xs) y h) [
  | inl i ↦ (x, here x xs, i)
  | inr rest ↦ let r = in_flat_map f xs y rest in (r.0, there x xs r.0 r.1, r.2)
]

to_flat_map : {X Y : Type 0} (f : X → List Y) (xs : List X) (x : X) (y : Y) → Contains xs x → Contains (f x) y →
    Contains (flat_map f xs) y
to_flat_map f [] x y h k = absurd (nowhere x h)
to_flat_map {X} f (z ∷ xs) x y h k = elim (Contains-append_cases (z ∷ []) xs x h) [
  | inl i ↦
      let P : X → Type 0 = λ v. Contains (f v) y in
      Contains-append_left (f z) (flat_map f xs) y (subst P (sym (one z x i)) k)
  | inr rest ↦ Contains-append_right (f z) (flat_map f xs) y (to_flat_map f xs x y rest k)
]

in_fact_for : (function i : ℕ) (beginning fact : Fact) → Contains (fact_for function i beginning) fact →
    (function ≡ i) × (beginning ≡ fact)
in_fact_for function i beginning fact h = of (function == i) refl h
  where
    of : (b : Bool) → function == i ≡ b → Contains (if b then beginning ∷ [] else []) fact → (function ≡ i) × (beginning ≡ fact)
    of true e k = (eqb-true function i e, one beginning fact k)
    of false e k = absurd (nowhere fact k)

in_fact_if : (b : Bool) (facts : List Fact) (fact : Fact) → Contains (fact_if b facts) fact → (b ≡ true) × Contains facts fact
in_fact_if true facts fact h = (refl, h)
in_fact_if false facts fact h = absurd (nowhere fact h)

module _ (table : List (Option ℕ)) where
  -- a fact that is passed
  record IsPassedBy (i : ℕ) (pass : Pass) (fact : Fact) : Type 0 where
    true_in : holds table pass.cause ≡ true
    function : pass.function ≡ i
    beginning : pass.beginning ≡ fact

  in_passed : (i : ℕ) (pass : Pass) (fact : Fact) → Contains (passed_to table i pass) fact → IsPassedBy i pass fact
  in_passed i pass fact h =
      let is = in_fact_if (holds table pass.cause) (fact_for pass.function i pass.beginning) fact h in
      let for = in_fact_for pass.function i pass.beginning fact is.1 in
      record { true_in = is.0; function = for.0; beginning = for.1 }

  to_passed : (pass : Pass) → holds table pass.cause ≡ true → Contains (passed_to table pass.function pass) pass.beginning
  to_passed pass h =
      let P : Bool → Type 0 = λ v. Contains (fact_if v (fact_for pass.function pass.function pass.beginning)) pass.beginning in
      let Q : List Fact → Type 0 = λ v. Contains v pass.beginning in
      subst P (sym h) (subst Q (sym (fact_same pass.function pass.function pass.beginning refl)) (here pass.beginning []))

  -- a need that is violated
  record IsViolationOf (place : BodyLocation) (need : Need) (violation : Violation) : Type 0 where
    is : need ≡ violation.need
    at : violation.place ≡ place
    true_in : holds table violation.need.violated_by ≡ true

  in_violations : (place : BodyLocation) (need : Need) (violation : Violation) → Contains (violations_of place table need) violation →
      IsViolationOf place need violation
  in_violations place need violation h = of (holds table need.violated_by) refl h
    where
      of : (b : Bool) → holds table need.violated_by ≡ b → Contains (violation_if b (record { place = place; need = need })) violation →
          IsViolationOf place need violation
      of true e k =
          let same = one (record { place = place; need = need }) violation k in
          let P : Violation → Type 0 = λ v. IsViolationOf place need v in
          subst P same (record { is = refl; at = refl; true_in = e })
      of false e k = absurd (nowhere violation k)

  to_violations : (violation : Violation) → holds table violation.need.violated_by ≡ true →
      Contains (violations_of violation.place table violation.need) violation
  to_violations violation h =
      let P : Bool → Type 0 = λ v. Contains (violation_if v violation) violation in
      subst P (sym h) (here violation [])

module _ (rules : List Rule) (needs backward : List Need) (passes : List Pass) (place : BodyLocation) (firsts : List Fact)
    (table : List (Option ℕ)) (marks : HasFollowers rules firsts table) (order : IsPermutation needs backward) (old new : Search)
    (found : new.found.items ≡ old.found.items ++ flat_map (violations_of place table) backward)
    (notes : Notes table passes old.begun.items new.begun.items) where
  begun_only : (i : ℕ) (fact : Fact) → i < length old.begun.items → Contains (begun_at new.begun.items i) fact →
      Contains (begun_at old.begun.items i) fact ⊎ IsPassed rules passes firsts i fact
  begun_only i fact lt h =
      let P : List Fact → Type 0 = λ v. Contains v fact in
      let more = flat_map (passed_to table i) passes in
      elim (Contains-append_cases (begun_at old.begun.items i) more fact (subst P (notes.noted i lt) h)) [
        | inl before ↦ inl before
        | inr added ↦
            let from = in_flat_map (passed_to table i) passes fact added in
            let by = in_passed table i from.0 fact from.2 in
            inr (from.0, by.function, by.beginning, from.1, (marks from.0.cause).0 by.true_in)
      ]

  begun_too : (i : ℕ) (fact : Fact) → i < length old.begun.items →
      Contains (begun_at old.begun.items i) fact ⊎ IsPassed rules passes firsts i fact → Contains (begun_at new.begun.items i) fact
  begun_too i fact lt (inl before) =
      let P : List Fact → Type 0 = λ v. Contains v fact in
      subst P (sym (notes.noted i lt))
      (Contains-append_left (begun_at old.begun.items i) (flat_map (passed_to table i) passes) fact before)
  begun_too i fact lt (inr by) =
      let P : List Fact → Type 0 = λ v. Contains v fact in
      let F : ℕ → Type 0 = λ v. Contains (passed_to table v by.0) by.0.beginning in
      let B : Fact → Type 0 = λ v. Contains (passed_to table i by.0) v in
      let added = subst B by.2 (subst F by.1 (to_passed table by.0 ((marks by.0.cause).1 by.4))) in
      subst P (sym (notes.noted i lt))
      (Contains-append_right (begun_at old.begun.items i) (flat_map (passed_to table i) passes) fact
      (to_flat_map (passed_to table i) passes by.0 fact by.3 added))

  found_only : (violation : Violation) → Contains new.found.items violation →
      Contains old.found.items violation ⊎ IsFoundIn rules needs place firsts violation
  found_only violation h =
      let P : List Violation → Type 0 = λ v. Contains v violation in
      elim (Contains-append_cases old.found.items (flat_map (violations_of place table) backward) violation (subst P found h)) [
        | inl before ↦ inl before
        | inr added ↦
            let from = in_flat_map (violations_of place table) backward violation added in
            let by = in_violations table place from.0 violation from.2 in
            let Q : Need → Type 0 = λ v. Contains needs v in
            let within = Contains-permutation backward needs from.0 (IsPermutation-sym needs backward order) from.1 in
            inr (by.at, subst Q by.is within, (marks violation.need.violated_by).0 by.true_in)
      ]

  found_too : (violation : Violation) → Contains old.found.items violation ⊎ IsFoundIn rules needs place firsts violation →
      Contains new.found.items violation
  found_too violation (inl before) =
      let P : List Violation → Type 0 = λ v. Contains v violation in
      subst P (sym found) (Contains-append_left old.found.items (flat_map (violations_of place table) backward) violation before)
  found_too violation (inr by) =
      let P : List Violation → Type 0 = λ v. Contains v violation in
      let Q : BodyLocation → Type 0 = λ v. Contains (violations_of v table violation.need) violation in
      let made = subst Q by.0 (to_violations table violation ((marks violation.need.violated_by).1 by.2)) in
      subst P (sym found)
      (Contains-append_right old.found.items (flat_map (violations_of place table) backward) violation
      (to_flat_map (violations_of place table) backward violation.need violation
      (Contains-permutation needs backward violation.need order by.1) made))

  pub searched : Searches rules needs passes place firsts old new
  searched = record {
    long = notes.long;
    begun = λ i fact lt. (begun_only i fact lt, begun_too i fact lt);
    found = λ violation. (found_only violation, found_too violation);
  }
