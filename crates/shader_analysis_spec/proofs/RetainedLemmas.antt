-- The first result that a fold over a list retains.
use Rattle.std.proofs.Common.{◌≡◌, refl, sym, ap, subst, ◌∙◌, ℕ, ◌+◌, ◌<◌, ◌⊎◌, inl, inr, List, []}
use Rattle.std.proofs.Common.{◌∷◌, Option, Some, None, fold, slice_get, length, get_or, arith}
use Rattle.std.specs.List.{Contains, enumerate_from}
use Rattle.std.proofs.lemmas.List.FromFn.{get_or-enumerate_from, length-enumerate_from}
use Rattle.std.proofs.lemmas.Option.{slice_get_within, get_or_from_slice_get, slice_get-get_or}
use Rattle.shader_analysis_spec.specs.Infos.{IsWitness}
use Rattle.shader_analysis_spec.proofs.OriginsLemmas.{IsWitness-same}
use Rattle.std.specs.Option.{option_or}
use Rattle.shader_analysis_spec.proofs.ListLemmas.{nowhere, here, there, cases}

pub or_picks : (P Q : ℕ → Type 0) (a b : Option ℕ) → IsWitness P a → IsWitness Q b → IsWitness (λ h. P h ⊎ Q h) (option_or a b)
or_picks P Q (Some h) b p q = inl p
or_picks P Q None (Some h) p q = inr q
or_picks P Q None None p q = λ h t. elim t [ inl l ↦ p h l | inr r ↦ q h r ]

pub picked : (P : ℕ → Type 0) (o : Option ℕ) (h : ℕ) → IsWitness P o → o ≡ Some h → P h
picked P o h p e = let Q : Option ℕ → Type 0 = λ v. IsWitness P v in subst Q e p

pub none_picked : (P : ℕ → Type 0) (o : Option ℕ) → IsWitness P o → o ≡ None → (h : ℕ) → P h → ⊥
none_picked P o p e = let Q : Option ℕ → Type 0 = λ v. IsWitness P v in subst Q e p

module _ {X : Type 0} (step : Option ℕ → X → Option ℕ) (P : X → ℕ → Type 0) (preserves : (x : X) (h : ℕ) → step (Some h) x ≡ Some h)
    (picks : (x : X) → IsWitness (P x) (step None x)) where
  pub preserves_all : (h : ℕ) (xs : List X) → fold step (Some h) xs ≡ Some h
  preserves_all h [] = refl
  preserves_all h (x ∷ xs) = ap (λ v. fold step v xs) (preserves x h) ∙ preserves_all h xs

  abbrev pub One : List X → ℕ → Type 0
  One xs h = (x : X) × Contains xs x × P x h

  pub retained : (xs : List X) → IsWitness (One xs) (fold step None xs)
  retained [] = λ h t. nowhere t.0 t.1
  retained (x ∷ xs) = at (step None x) (picks x) refl (retained xs) where
    at : (o : Option ℕ) → IsWitness (P x) o → step None x ≡ o → IsWitness (One xs) (fold step None xs) →
        IsWitness (One (x ∷ xs)) (fold step (step None x) xs)
    at (Some h) p e rest = let Q : Option ℕ → Type 0 = λ v. IsWitness (One (x ∷ xs)) v in
        subst Q (sym (ap (λ v. fold step v xs) e ∙ preserves_all h xs)) (x, here x xs, p)
    at None p e rest = let Q : Option ℕ → Type 0 = λ v. IsWitness (One (x ∷ xs)) v in
        subst Q (sym (ap (λ v. fold step v xs) e)) (IsWitness-same (One xs) (One (x ∷ xs)) (fold step None xs)
        (λ h t. (t.0, there x xs t.0 t.1, t.2))
        (λ h t. elim (cases x xs t.0 t.1) [
          | inl is ↦ let R : X → Type 0 = λ v. P v h in absurd (p h (subst R (sym is) t.2))
          | inr later ↦ (h, (t.0, later, t.2))
        ]) rest)

  -- a fold from an earlier result
  pub retained_after : (R : ℕ → Type 0) (o : Option ℕ) → IsWitness R o → (xs : List X) → IsWitness (λ h. R h ⊎ One xs h) (fold step o xs)
  retained_after R (Some h) r xs = let Q : Option ℕ → Type 0 = λ v. IsWitness (λ h. R h ⊎ One xs h) v in
      subst Q (sym (preserves_all h xs)) (inl r)
  retained_after R None r xs = IsWitness-same (One xs) (λ h. R h ⊎ One xs h) (fold step None xs) (λ h t. inr t)
      (λ h t. elim t [ inl l ↦ absurd (r h l) | inr k ↦ (h, k) ]) (retained xs)

-- the items with their positions
module _ {X : Type 0} (xs : List X) where
  pub is_there_at : (p : ℕ × X) → Contains (enumerate_from 0 xs) p → slice_get xs p.0 ≡ Some p.1
  is_there_at p h =
      let within : h.0 < length xs = omega (arith, h.1, length-enumerate_from 0 xs) in
      let is : (0 + h.0, get_or xs h.0 p.1) ≡ p = sym (get_or-enumerate_from 0 xs h.0 p within) ∙ h.2 in
      let position : h.0 ≡ p.0 = omega (arith, ap (λ (v : ℕ × X). v.0) is) in
      let P : ℕ → Type 0 = λ v. slice_get xs v ≡ Some p.1 in
      subst P position (slice_get-get_or xs h.0 p.1 within ∙ ap (λ (v : ℕ × X). Some v.1) is)

  pub at_occurs : (e : ℕ) (x : X) → slice_get xs e ≡ Some x → Contains (enumerate_from 0 xs) (e, x)
  at_occurs e x s =
      let within : e < length xs = slice_get_within xs e x s in
      let zeroth : 0 + e ≡ e = omega arith in (
        e,
        omega (arith, within, length-enumerate_from 0 xs),
        get_or-enumerate_from 0 xs e (e, x) within ∙ (ap (λ v. (v, get_or xs e x)) zeroth
            ∙ ap (λ v. (e, v)) (get_or_from_slice_get xs e x x s)),
      )
