-- Runs exist: a call of a function without statements has one, whatever is passed.
use Rattle.std.proofs.Common.{◌≡◌, refl, sym, ◌∙◌, ap, subst, ◌⊎◌, inl, inr, ℕ, zero, suc, ◌<◌, List, [], Option, Some, None}
use Rattle.std.proofs.Common.{slice_get, length, arith}
use Rattle.std.proofs.lemmas.Bool.{cases_eq}
use Rattle.std.proofs.lemmas.Option.{slice_get_within}
use Rattle.shader_uniformity.specs.Lockstep.{Status, On, State, Meaning, Group, Content, Passes, PassedTo, Begins, Leaves, RunsStep}
use Rattle.shader_uniformity.specs.Lockstep.{RunsBlock, at_in, enter, everyone, first_value}
use Rattle.shader_uniformity.specs.Lockstep as run
use Rattle.shader_uniformity.specs.Together.{EmptyCallsRun}
use Rattle.shader_uniformity.specs.Words.{Body, Function, FunctionArgument}
use Rattle.shader_uniformity.specs.declared.facts.Place.{Place}
use Rattle.shader_uniformity.specs.declared.facts.Place.TheVariants.{Local, Pointee, Shared, Fixed}
use Rattle.shader_uniformity.proofs.FineLemmas.{same_place}

module _ (I V : Type 0) (t : Meaning I V) (at : ℕ → Place) (d : Function) (arguments : List ℕ) (s : State I V) where
  -- the place of an argument, if it has one
  abbrev PassesAt : ℕ → Place → Type 0
  PassesAt j p = Passes I V at d arguments j p

  pass_by : (j : ℕ) (p : Place) (e : Option ℕ) → slice_get arguments j ≡ e → (a : Option FunctionArgument) → slice_get d.arguments j ≡ a →
      PassesAt j p ⊎ (PassesAt j p → ⊥)
  pass_by j p None given a is = inr (λ h. let wrong : None ≡ Some h.0 = sym given ∙ h.2 in absurd (cc))
  pass_by j p (Some e) given None is = inr (λ h. let wrong : None ≡ Some h.1 = sym is ∙ h.3 in absurd (cc))
  pass_by j p (Some e) given (Some a) is = elim (same_place (at e) p) [
    | inl same ↦ inl (e, a, given, is, same)
    | inr unlike ↦ inr (λ h.
        let twice : Some e ≡ Some h.0 = sym given ∙ h.2 in
        let one : e ≡ h.0 = cc in
        unlike (ap (λ (v : ℕ). at v) one ∙ h.4))
  ]

  search_pass : (p : Place) (bound : ℕ) → ((j : ℕ) × PassesAt j p) ⊎ ((j : ℕ) → j < bound → PassesAt j p → ⊥)
  search_pass p zero = inr (λ j lt h. absurd (omega (arith, lt)))
  search_pass p (suc bound) = elim (search_pass p bound) [
    | inl found ↦ inl found
    | inr none ↦ elim (pass_by bound p (slice_get arguments bound) refl (slice_get d.arguments bound) refl) [
      | inl here ↦ inl (bound, here)
      | inr unlike ↦ inr (λ j lt h. elim (cases_eq j bound) [
        | inl e ↦ let P : ℕ → Type 0 = λ v. PassesAt v p in unlike (subst P e h)
        | inr other ↦ none j (omega (arith, lt, other)) h
      ])
    ]
  ]

  abbrev Found : Place → Type 0
  Found p = ((j : ℕ) × PassesAt j p) ⊎ ((j : ℕ) → PassesAt j p → ⊥)

  find_pass : (p : Place) → Found p
  find_pass p = elim (search_pass p (length arguments)) [
    | inl found ↦ inl found
    | inr none ↦ inr (λ j h. none j (slice_get_within arguments j h.0 h.2) h)
  ]

  -- what a place is read as, and with what the call begins
  abbrev content : I → Place → V
  content i Fixed = t.fixed
  content i p = s.memory i p

  is_content : (i : I) (p : Place) → Content I V t p (s.memory i p) (content i p)
  is_content i Shared = tt
  is_content i Fixed = refl
  is_content i (Local l) = refl
  is_content i (Pointee k) = refl

  abbrev pointee : I → Option FunctionArgument → Option ℕ → V
  pointee i (Some a) (Some e) = content i (at e)
  pointee i (Some a) None = t.nothing
  pointee i None e = t.nothing

  is_pointee : (i : I) (a : Option FunctionArgument) (e : Option ℕ) → PassedTo I V t at s i a e (pointee i a e)
  is_pointee i (Some a) (Some e) = is_content i (at e)
  is_pointee i (Some a) None = refl
  is_pointee i None (Some e) = refl
  is_pointee i None None = refl

  abbrev begun_memory : I → Place → V
  begun_memory i (Local l) = t.local d l
  begun_memory i (Pointee k) = pointee i (slice_get d.arguments k) (slice_get arguments k)
  begun_memory i p = s.memory i p

  abbrev begun : State I V
  begun = record {
    values = λ i h. first_value I V t d arguments s i h (slice_get d.expressions h);
    memory = begun_memory;
    results = λ i. t.nothing;
  }

  begins : Begins I V t at d arguments s begun
  begins = record {
    values = λ i h. refl;
    locals = λ i l. refl;
    pointees = λ i k. is_pointee i (slice_get d.arguments k) (slice_get arguments k);
    results = λ i. refl;
  }

  -- what the call leaves at a place
  abbrev left_at : (i : I) (p : Place) → Found p → V
  left_at i p (inl found) = begun_memory i (Pointee found.0)
  left_at i p (inr none) = s.memory i p

  abbrev left : State I V
  left = record { values = s.values; memory = λ i p. left_at i p (find_pass p); results = s.results }

  is_left : (p : Place) (found : Found p) →
      ((k : ℕ) × PassesAt k p × ((i : I) → left_at i p found ≡ begun_memory i (Pointee k))) ⊎
      (((k : ℕ) → PassesAt k p → ⊥) × ((i : I) → left_at i p found ≡ s.memory i p))
  is_left p (inl found) = inl (found.0, found.1, λ i. refl)
  is_left p (inr none) = inr (none, λ i. refl)

  leaves : Leaves I V at d arguments s begun left
  leaves = record { values = λ i h. refl; memory = λ p. is_left p (find_pass p); results = λ i. refl }

pub empty_calls_run : (I V : Type 0) → EmptyCallsRun I V
empty_calls_run I V t m severity n c f d arguments early is empty s g =
    let at = at_in I V t m severity f in
    let u = begun I V t at d arguments s in
    let B : Body → Type 0 = λ b. RunsBlock I V t m severity c d b u (enter I V g (everyone I V)) u (enter I V g (everyone I V)) [] in (
      left I V t at d arguments s,
      run.calls early is (begins I V t at d arguments s) (subst B (sym empty) run.ends) (leaves I V t at d arguments s) run.nothing,
    )
