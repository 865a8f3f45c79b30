-- What follows from several facts follows from `Always` by rules that lead to each of them.
use Rattle.std.proofs.Common.{◌≡◌, ap, subst, ℕ, inl, inr, List, [], ◌∷◌, ◌++◌, Option, map}
use Rattle.std.proofs.lemmas.List.Elements.{Contains-append_left, Contains-append_right, Contains-append_cases}
use Rattle.std.specs.List.{Contains}
use Rattle.shader_uniformity.proofs.KnownLemmas.{here, nowhere, one, there}
use Rattle.shader_uniformity.specs.Cells.{HasMarks}
use Rattle.shader_uniformity.specs.Marks.{leads, Marked, itself, by_rule, later}
use Rattle.shader_uniformity.specs.declared.facts.Fact.{Fact}
use Rattle.shader_uniformity.specs.declared.facts.Fact.TheVariants.{Always, Holds}
use Rattle.shader_uniformity.specs.declared.facts.Rule.{Rule}
use Rattle.shader_uniformity_needs.specs.Notes.{Follows, HasFollowers}

-- the rules that lead to the facts
abbrev links : List Fact → List Rule
links firsts = map (leads Always) firsts

linked : (firsts : List Fact) (cause effect : Fact) → Contains (links firsts) (leads cause effect) → Contains firsts effect
linked [] cause effect h = absurd (nowhere (leads cause effect) h)
linked (first ∷ firsts) cause effect h = elim (Contains-append_cases (leads Always first ∷ []) (links firsts) (leads cause effect) h) [
  | inl i ↦
      let P : Fact → Type 0 = λ v. Contains (first ∷ firsts) v in
      subst P (ap (λ (r : Rule). r.effect) (one (leads Always first) (leads cause effect) i)) (here first firsts)
  | inr rest ↦ there first firsts effect (linked firsts cause effect rest)
]

has_link : (firsts : List Fact) (first : Fact) → Contains firsts first → Contains (links firsts) (leads Always first)
has_link [] first h = absurd (nowhere first h)
has_link (x ∷ firsts) first h = elim (Contains-append_cases (x ∷ []) firsts first h) [
  | inl i ↦
      let P : Fact → Type 0 = λ v. Contains (links (x ∷ firsts)) (leads Always v) in
      subst P (one x first i) (here (leads Always x) (links firsts))
  | inr rest ↦ there (leads Always x) (links firsts) (leads Always first) (has_link firsts first rest)
]

module _ (rules : List Rule) (firsts : List Fact) where
  follows : (fact : Fact) → Marked (rules ++ links firsts) Always fact → Follows rules firsts fact
  follows _ itself = (Always, here Always firsts, itself)
  follows _ (by_rule {cause = cause} {effect = effect} within m) =
      elim (Contains-append_cases rules (links firsts) (leads cause effect) within) [
        | inl i ↦ let f = follows cause m in (f.0, f.1, by_rule i f.2)
        | inr link ↦ (effect, there Always firsts effect (linked firsts cause effect link), itself)
      ]
  follows _ (later {place = p} {moment = s} next le m) = let f = follows (Holds p s) m in (f.0, f.1, later next le f.2)

  marked_on : (x y z : Fact) → Marked (rules ++ links firsts) x y → Marked rules y z → Marked (rules ++ links firsts) x z
  marked_on x y _ m itself = m
  marked_on x y _ m (by_rule {cause = cause} {effect = effect} within n) =
      by_rule (Contains-append_left rules (links firsts) (leads cause effect) within) (marked_on x y cause m n)
  marked_on x y _ m (later {place = p} {moment = s} next le n) = later next le (marked_on x y (Holds p s) m n)

  begun : (first : Fact) → Contains (Always ∷ firsts) first → Marked (rules ++ links firsts) Always first
  begun first h = elim (Contains-append_cases (Always ∷ []) firsts first h) [
    | inl i ↦
        let P : Fact → Type 0 = λ v. Marked (rules ++ links firsts) Always v in
        subst P (one Always first i) itself
    | inr rest ↦ by_rule (Contains-append_right rules (links firsts) (leads Always first) (has_link firsts first rest)) itself
  ]

  pub followers : (all : List Rule) (table : List (Option ℕ)) → all ≡ rules ++ links firsts → HasMarks all Always table →
      HasFollowers rules firsts table
  followers all table is marks fact =
      let P : List Rule → Type 0 = λ v. HasMarks v Always table in
      let at = (subst P is marks) fact in
      (λ h. follows fact (at.0 h), λ f. at.1 (marked_on Always f.0 fact (begun f.0 f.1) f.2))
