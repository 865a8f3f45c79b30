-- What is known of a function, one beginning after another.
use Rattle.std.proofs.Common.{◌≡◌, ◌∙◌, refl, sym, ap, subst, ℕ, ◌<◌, inl, inr, Bool, true, false, List, [], ◌∷◌, ◌++◌, Option}
use Rattle.std.proofs.Common.{arith, if◌then◌else◌}
use Rattle.std.specs.List.{Contains, flat_map}
use Rattle.std.proofs.lemmas.Bool.{false≢true}
use Rattle.std.proofs.lemmas.List.Elements.{Contains-append_left, Contains-append_right, Contains-append_cases, Contains-push}
use Rattle.std.proofs.lemmas.List.Elements.{Contains-push_cases}
use Rattle.shader_uniformity.specs.Cells.{ending, holds, HasMarks}
use Rattle.shader_uniformity.specs.Fault.{IsKnown}
use Rattle.shader_uniformity.specs.Marks.{leads, Marked}
use Rattle.shader_uniformity.specs.declared.facts.Fact.{Fact}
use Rattle.shader_uniformity.specs.declared.facts.Rule.{Rule}

module _ {X : Type 0} where
  pub nowhere : (x : X) → Contains [] x → ⊥
  nowhere x h = let lt : h.0 < 0 = h.1 in omega arith

  pub here : (x : X) (xs : List X) → Contains (x ∷ xs) x
  here x xs = Contains-append_left (x ∷ []) xs x (Contains-push [] x)

  pub there : (x : X) (xs : List X) (y : X) → Contains xs y → Contains (x ∷ xs) y
  there x xs y h = Contains-append_right (x ∷ []) xs y h

  pub one : (x y : X) → Contains (x ∷ []) y → x ≡ y
  one x y h = elim (Contains-push_cases [] x y h) [ inl none ↦ absurd (nowhere y none) | inr e ↦ e ]

module _ (rules : List Rule) (table : List (Option ℕ)) (first : Fact) where
  in_ending : (last : Fact) (b : Bool) → holds table last ≡ b → (x y : Fact) →
      Contains (if b then leads first last ∷ [] else []) (leads x y) → (x ≡ first) × (y ≡ last) × (holds table last ≡ true)
  in_ending last true e x y h =
      let is = one (leads first last) (leads x y) h in
      (sym (ap (λ (r : Rule). r.cause) is), sym (ap (λ (r : Rule). r.effect) is), e)
  in_ending last false e x y h = absurd (nowhere (leads x y) h)

  in_endings : (lasts : List Fact) (x y : Fact) → Contains (flat_map (ending table first) lasts) (leads x y) →
      (x ≡ first) × Contains lasts y × (holds table y ≡ true)
  in_endings [] x y h = absurd (nowhere (leads x y) h)
  in_endings (last ∷ lasts) x y h = elim (Contains-append_cases (ending table first last) (flat_map (ending table first) lasts) _ h) [
    | inl i ↦
        let at = in_ending last (holds table last) refl x y i in
        let P : Fact → Type 0 = λ v. Contains (last ∷ lasts) v in
        let Q : Fact → Type 0 = λ v. holds table v ≡ true in
        (at.0, subst P (sym at.1) (here last lasts), subst Q (sym at.1) at.2)
    | inr rest ↦ let r = in_endings lasts x y rest in (r.0, there last lasts y r.1, r.2)
  ]

  has_ending : (last : Fact) (b : Bool) → holds table last ≡ b → holds table last ≡ true →
      Contains (if b then leads first last ∷ [] else []) (leads first last)
  has_ending last true e h = here (leads first last) []
  has_ending last false e h = absurd (false≢true (sym e ∙ h))

  has_endings : (lasts : List Fact) (y : Fact) → Contains lasts y → holds table y ≡ true →
      Contains (flat_map (ending table first) lasts) (leads first y)
  has_endings [] y h t = absurd (nowhere y h)
  has_endings (last ∷ lasts) y h t = elim (Contains-append_cases (last ∷ []) lasts y h) [
    | inl i ↦
        let P : Fact → Type 0 = λ v. Contains (ending table first v) (leads first y) in
        Contains-append_left (ending table first last) (flat_map (ending table first) lasts) (leads first y)
        (subst P (sym (one last y i)) (has_ending y (holds table y) refl t))
    | inr rest ↦ Contains-append_right (ending table first last) (flat_map (ending table first) lasts) (leads first y)
        (has_endings lasts y rest t)
  ]

pub known_none : (lasts : List Fact) (rules : List Rule) → IsKnown [] lasts rules []
known_none lasts rules = record {
  complete = λ x y h k m. absurd (nowhere x h);
  sound = λ x y h. absurd (nowhere (leads x y) h);
}

pub known_more : (firsts lasts : List Fact) (rules known : List Rule) (first : Fact) (table : List (Option ℕ)) →
    IsKnown firsts lasts rules known → HasMarks rules first table →
    IsKnown (firsts ++ first ∷ []) lasts rules (known ++ flat_map (ending table first) lasts)
known_more firsts lasts rules known first table old marks = record {
  complete = complete;
  sound = sound;
}
  where
    complete : (x y : Fact) → Contains (firsts ++ first ∷ []) x → Contains lasts y → Marked rules x y →
        Contains (known ++ flat_map (ending table first) lasts) (leads x y)
    complete x y h k m = elim (Contains-push_cases firsts first x h) [
      | inl before ↦ Contains-append_left known (flat_map (ending table first) lasts) (leads x y) (old.complete x y before k m)
      | inr e ↦
          let P : Fact → Type 0 = λ v. Marked rules v y in
          let Q : Fact → Type 0 = λ v. Contains (known ++ flat_map (ending table first) lasts) (leads v y) in
          subst Q e (Contains-append_right known (flat_map (ending table first) lasts) (leads first y)
          (has_endings rules table first lasts y k ((marks y).1 (subst P (sym e) m))))
    ]

    sound : (x y : Fact) → Contains (known ++ flat_map (ending table first) lasts) (leads x y) →
        Contains (firsts ++ first ∷ []) x × Contains lasts y × Marked rules x y
    sound x y h = elim (Contains-append_cases known (flat_map (ending table first) lasts) (leads x y) h) [
      | inl before ↦
          let o = old.sound x y before in
          (Contains-append_left firsts (first ∷ []) x o.0, o.1, o.2)
      | inr new ↦
          let n = in_endings rules table first lasts x y new in
          let P : Fact → Type 0 = λ v. Contains (firsts ++ first ∷ []) v × Contains lasts y × Marked rules v y in
          subst P (sym n.0) (Contains-push firsts first, n.1, (marks y).0 n.2)
    ]
