-- The search, one body after another.
use Rattle.std.proofs.Common.{◌≡◌, refl, sym, ◌∙◌, ap, subst, ℕ, zero, suc, ◌+◌, ◌-◌, ◌<◌, ◌⊎◌, ◌↔◌, inl, inr, List, [], ◌∷◌, ◌++◌}
use Rattle.std.proofs.Common.{Option, arith, length, length-append}
use Rattle.std.proofs.lemmas.Bool.{cases_lt}
use Rattle.std.proofs.lemmas.List.Elements.{Contains-append_cases}
use Rattle.std.proofs.lemmas.List.Sorted.{Contains-permutation, IsPermutation-sym}
use Rattle.std.proofs.lemmas.Option.{slice_get_past}
use Rattle.std.specs.Global.{Vec}
use Rattle.std.specs.List.{Contains}
use Rattle.std.specs.List.Sorted.{IsPermutation}
use Rattle.shader_uniformity.proofs.KnownLemmas.{here, nowhere, one, there}
use Rattle.shader_uniformity.specs.Fault.{IsBefore}
use Rattle.shader_uniformity.specs.Marks.{Marked}
use Rattle.shader_uniformity.specs.Traces.{rules_at}
use Rattle.shader_uniformity.specs.Words.{EntryPoint, Function, Module}
use Rattle.shader_uniformity.specs.declared.facts.BodyLocation.{BodyLocation}
use Rattle.shader_uniformity.specs.declared.facts.BodyLocation.TheVariants as body
use Rattle.shader_uniformity.specs.declared.facts.Fact.{Fact}
use Rattle.shader_uniformity.specs.declared.facts.Fact.TheVariants.{Always}
use Rattle.shader_uniformity.specs.declared.facts.Rule.{Rule}
use Rattle.shader_uniformity_needs.proofs.NoteLemmas.{begun_within, AreEmpty}
use Rattle.shader_uniformity_needs.specs.Needs.{needs_at, needs_of_function, needs_of_point}
use Rattle.shader_uniformity_needs.specs.Notes.{begun_at, Follows}
use Rattle.shader_uniformity_needs.specs.Passes.{passes_at, passes_of_function, passes_of_point}
use Rattle.shader_uniformity_needs.specs.Search.{AreViolations, IsDone, IsSearched, Searches}
use Rattle.shader_uniformity_needs.specs.Violations.{always, passed, Begins, IsViolated, MayHold}
use Rattle.shader_uniformity_needs.specs.declared.needs.Need.{Need}
use Rattle.shader_uniformity_needs.specs.declared.needs.Pass.{Pass}
use Rattle.shader_uniformity_needs.specs.declared.needs.Violation.{Violation}
use Rattle.shader_uniformity_needs.specs.declared.search.Search.{Search}

-- the facts of functions, of which the last one is taken
first_at : (begun : List (Vec Fact)) (v : Vec Fact) (i : ℕ) → i < length begun → begun_at (begun ++ v ∷ []) i ≡ begun_at begun i
first_at [] v i lt = absurd (omega arith)
first_at (x ∷ begun) v zero lt = refl
first_at (x ∷ begun) v (suc i) lt = first_at begun v i (omega arith)

last_at : (begun : List (Vec Fact)) (v : Vec Fact) → begun_at (begun ++ v ∷ []) (length begun) ≡ v.items
last_at [] v = refl
last_at (x ∷ begun) v = last_at begun v

module _ (m : Module) (known : List (List Rule)) where
  -- a body outside the module needs and passes nothing
  no_needs : (place : BodyLocation) → IsDone (length m.functions) (length m.entry_points) place → needs_at m place ≡ []
  no_needs (body.Function i) le = ap (λ (v : Option Function). needs_of_function m v) (slice_get_past m.functions i le)
  no_needs (body.EntryPoint i) le = ap (λ (v : Option EntryPoint). needs_of_point m v) (slice_get_past m.entry_points i le)

  no_passes : (place : BodyLocation) → IsDone (length m.functions) (length m.entry_points) place → passes_at m place ≡ []
  no_passes (body.Function i) le = ap (λ (v : Option Function). passes_of_function m v) (slice_get_past m.functions i le)
  no_passes (body.EntryPoint i) le = ap (λ (v : Option EntryPoint). passes_of_point m v) (slice_get_past m.entry_points i le)

  -- before the first body
  pub begun_searched : (search : Search) → length search.begun.items ≡ length m.functions → AreEmpty search.begun.items →
      search.found.items ≡ [] → IsSearched m known (length search.begun.items) (length m.entry_points) search
  begun_searched search long empty none = record {
    begins = λ i fact h. let P : List Fact → Type 0 = λ v. Contains v fact in absurd (nowhere fact (subst P (empty i) h));
    passed = λ caller pass done lt before within may.
        let P : List Pass → Type 0 = λ v. Contains v pass in
        absurd (nowhere pass (subst P (no_passes caller (of caller done)) within));
    sound = λ violation h. let P : List Violation → Type 0 = λ v. Contains v violation in absurd (nowhere violation (subst P none h));
    complete = λ violation done is.
        let P : List Need → Type 0 = λ v. Contains v violation.need in
        absurd (nowhere violation.need (subst P (no_needs violation.place (of violation.place done)) is.0));
  }
    where
      of : (place : BodyLocation) → IsDone (length search.begun.items) (length m.entry_points) place →
          IsDone (length m.functions) (length m.entry_points) place
      of (body.Function i) le = omega (arith, le, long)
      of (body.EntryPoint i) le = le

  -- with what a call begins
  record IsPassedAt (place : BodyLocation) (fact : Fact) : Type 0 where
    caller : BodyLocation
    first : Fact
    pass : Pass
    at : place ≡ body.Function pass.function
    is : fact ≡ pass.beginning
    before : IsBefore m (body.Function pass.function) caller
    within : Contains (passes_at m caller) pass
    begins : Begins m known caller first
    marked : Marked (rules_at m known caller) first pass.cause

  begins_by : (place : BodyLocation) (fact : Fact) → Begins m known place fact → (fact ≡ Always) ⊎ IsPassedAt place fact
  begins_by _ _ always = inl refl
  begins_by _ _ (passed {caller = caller} {first = first} pass before within begins marked) = inr (record {
    caller = caller;
    first = first;
    pass = pass;
    at = refl;
    is = refl;
    before = before;
    within = within;
    begins = begins;
    marked = marked;
  })

  -- `firsts` are the facts with which calls at a place begin, besides `Always`
  abbrev pub AreFirsts : BodyLocation → List Fact → Type 0
  AreFirsts place firsts = (fact : Fact) → Contains (Always ∷ firsts) fact ↔ Begins m known place fact

  -- those of an entry point
  pub no_firsts : (i : ℕ) → AreFirsts (body.EntryPoint i) []
  no_firsts i fact = (only, too)
    where
      only : Contains (Always ∷ []) fact → Begins m known (body.EntryPoint i) fact
      only h =
          let P : Fact → Type 0 = λ v. Begins m known (body.EntryPoint i) v in
          subst P (one Always fact h) always

      too : Begins m known (body.EntryPoint i) fact → Contains (Always ∷ []) fact
      too h = elim (begins_by (body.EntryPoint i) fact h) [
        | inl e ↦ let P : Fact → Type 0 = λ v. Contains (Always ∷ []) v in subst P (sym e) (here Always [])
        | inr by ↦ let at = by.at in cc
      ]

  -- one more body
  module _ (functions points : ℕ) (place : BodyLocation) (firsts : List Fact) (old new : Search) (are : AreFirsts place firsts)
      (earlier : (i : ℕ) → i < length old.begun.items → IsBefore m (body.Function i) place)
      (step : Searches (rules_at m known place) (needs_at m place) (passes_at m place) place firsts old new)
      (was : IsSearched m known functions points old) where
    may_hold : (fact : Fact) → Follows (rules_at m known place) firsts fact → MayHold m known place fact
    may_hold fact f = (f.0, (are f.0).0 f.1, f.2)

    followed : (fact : Fact) → MayHold m known place fact → Follows (rules_at m known place) firsts fact
    followed fact may = (may.0, (are may.0).1 may.1, may.2)

    begins_new : (i : ℕ) (fact : Fact) → Contains (begun_at new.begun.items i) fact → Begins m known (body.Function i) fact
    begins_new i fact h =
        let long = step.long in
        let inside = begun_within new.begun.items i fact h in
        let lt : i < length old.begun.items = omega (arith, long, inside) in
        elim ((step.begun i fact lt).0 h) [
          | inl before ↦ was.begins i fact before
          | inr by ↦
              let may = may_hold by.0.cause by.4 in
              let B : ℕ → Type 0 = λ v. IsBefore m (body.Function v) place in
              let F : ℕ → Type 0 = λ v. Begins m known (body.Function v) by.0.beginning in
              let P : Fact → Type 0 = λ v. Begins m known (body.Function i) v in
              subst P by.2 (subst F by.1 (passed by.0 (subst B (sym by.1) (earlier i lt)) by.3 may.1 may.2))
        ]

    sound_new : (violation : Violation) → Contains new.found.items violation → IsViolated m known violation
    sound_new violation h = elim ((step.found violation).0 h) [
      | inl before ↦ was.sound violation before
      | inr by ↦
          let P : BodyLocation → Type 0 = λ v.
          Contains (needs_at m v) violation.need × MayHold m known v violation.need.violated_by in
          subst P (sym by.0) (by.1, may_hold violation.need.violated_by by.2)
    ]

    module _ (functions' points' : ℕ)
        (done : (other : BodyLocation) → IsDone functions' points' other → IsDone functions points other ⊎ (other ≡ place)) where
      passed_new : (caller : BodyLocation) (pass : Pass) → IsDone functions' points' caller → pass.function < length new.begun.items →
          IsBefore m (body.Function pass.function) caller → Contains (passes_at m caller) pass →
          MayHold m known caller pass.cause → Contains (begun_at new.begun.items pass.function) pass.beginning
      passed_new caller pass is inside before within may =
          let long = step.long in
          let lt : pass.function < length old.begun.items = omega (arith, long, inside) in
          elim (done caller is) [
            | inl old_one ↦
                (step.begun pass.function pass.beginning lt).1 (inl (was.passed caller pass old_one lt before within may))
            | inr e ↦
                let C : BodyLocation → Type 0 = λ v. Contains (passes_at m v) pass in
                let M : BodyLocation → Type 0 = λ v. MayHold m known v pass.cause in
                (step.begun pass.function pass.beginning lt).1
                (inr (pass, refl, refl, subst C e within, followed pass.cause (subst M e may)))
          ]

      complete_new : (violation : Violation) → IsDone functions' points' violation.place → IsViolated m known violation →
          Contains new.found.items violation
      complete_new violation is violated = elim (done violation.place is) [
        | inl old_one ↦ (step.found violation).1 (inl (was.complete violation old_one violated))
        | inr e ↦
            let C : BodyLocation → Type 0 = λ v. Contains (needs_at m v) violation.need in
            let M : BodyLocation → Type 0 = λ v. MayHold m known v violation.need.violated_by in
            (step.found violation).1
            (inr (e, subst C e violated.0, followed violation.need.violated_by (subst M e violated.1)))
      ]

      pub searched_more : IsSearched m known functions' points' new
      searched_more = record { begins = begins_new; passed = passed_new; sound = sound_new; complete = complete_new }

  -- one more entry point
  pub searched_point : (count step i : ℕ) (old new : Search) → step < count → i ≡ count - 1 - step →
      Searches (rules_at m known (body.EntryPoint i)) (needs_at m (body.EntryPoint i)) (passes_at m (body.EntryPoint i))
      (body.EntryPoint i) [] old new →
      IsSearched m known (length old.begun.items) (count - step) old →
      IsSearched m known (length new.begun.items) (count - (step + 1)) new
  searched_point count step i old new lt is by was =
      searched_more (length old.begun.items) (count - step) (body.EntryPoint i) [] old new (no_firsts i) (λ k below. tt) by was
      (length new.begun.items) (count - (step + 1)) done
    where
      done : (other : BodyLocation) → IsDone (length new.begun.items) (count - (step + 1)) other →
          IsDone (length old.begun.items) (count - step) other ⊎ (other ≡ body.EntryPoint i)
      done (body.Function k) le = let long = by.long in inl (omega (arith, long, le))
      done (body.EntryPoint k) le = elim (cases_lt k (count - step)) [
        | inl below ↦ inr (ap body.EntryPoint (omega (arith, below, le, lt, is)))
        | inr past ↦ inl past
      ]

  -- the last function that is left is taken
  module _ (old mid : Search) (firsts : Vec Fact) (taken : old.begun.items ≡ mid.begun.items ++ firsts ∷ [])
      (same : mid.found.items ≡ old.found.items) (was : IsSearched m known (length old.begun.items) 0 old) where
    longer : length old.begun.items ≡ length mid.begun.items + 1
    longer = ap length taken ∙ length-append mid.begun.items (firsts ∷ [])

    at_first : (i : ℕ) → i < length mid.begun.items → begun_at old.begun.items i ≡ begun_at mid.begun.items i
    at_first i lt = ap (λ (v : List (Vec Fact)). begun_at v i) taken ∙ first_at mid.begun.items firsts i lt

    at_last : begun_at old.begun.items (length mid.begun.items) ≡ firsts.items
    at_last = ap (λ (v : List (Vec Fact)). begun_at v (length mid.begun.items)) taken ∙ last_at mid.begun.items firsts

    searched_mid : IsSearched m known (length old.begun.items) 0 mid
    searched_mid = record {
      begins = λ i fact h.
          let P : List Fact → Type 0 = λ v. Contains v fact in
          was.begins i fact (subst P (sym (at_first i (begun_within mid.begun.items i fact h))) h);
      passed = λ caller pass done lt before within may.
          let P : List Fact → Type 0 = λ v. Contains v pass.beginning in
          let long = longer in
          subst P (at_first pass.function lt) (was.passed caller pass done (omega (arith, long, lt)) before within may);
      sound = λ violation h. let P : List Violation → Type 0 = λ v. Contains v violation in was.sound violation (subst P same h);
      complete = λ violation done is.
          let P : List Violation → Type 0 = λ v. Contains v violation in
          subst P (sym same) (was.complete violation done is);
    }

    -- its callers are done
    done_caller : (caller : BodyLocation) → IsBefore m (body.Function (length mid.begun.items)) caller →
        IsDone (length old.begun.items) 0 caller
    done_caller (body.Function k) lt = let long = longer in omega (arith, long, lt)
    done_caller (body.EntryPoint k) lt = omega arith

    are_firsts : AreFirsts (body.Function (length mid.begun.items)) firsts.items
    are_firsts fact = (only, too)
      where
        only : Contains (Always ∷ firsts.items) fact → Begins m known (body.Function (length mid.begun.items)) fact
        only h = elim (Contains-append_cases (Always ∷ []) firsts.items fact h) [
          | inl i ↦
              let P : Fact → Type 0 = λ v. Begins m known (body.Function (length mid.begun.items)) v in
              subst P (one Always fact i) always
          | inr rest ↦
              let P : List Fact → Type 0 = λ v. Contains v fact in
              was.begins (length mid.begun.items) fact (subst P (sym at_last) rest)
        ]

        too : Begins m known (body.Function (length mid.begun.items)) fact → Contains (Always ∷ firsts.items) fact
        too h = elim (begins_by (body.Function (length mid.begun.items)) fact h) [
          | inl e ↦ let P : Fact → Type 0 = λ v. Contains (Always ∷ firsts.items) v in subst P (sym e) (here Always firsts.items)
          | inr by ↦
              let at = by.at in
              let e : by.pass.function ≡ length mid.begun.items = cc in
              let long = longer in
              let B : ℕ → Type 0 = λ v. IsBefore m (body.Function v) by.caller in
              let done = done_caller by.caller (subst B e by.before) in
              let h = was.passed by.caller by.pass done (omega (arith, long, e)) by.before by.within (by.first, by.begins, by.marked) in
              let N : ℕ → Type 0 = λ v. Contains (begun_at old.begun.items v) by.pass.beginning in
              let P : List Fact → Type 0 = λ v. Contains v by.pass.beginning in
              let F : Fact → Type 0 = λ v. Contains (Always ∷ firsts.items) v in
              subst F (sym by.is) (there Always firsts.items by.pass.beginning (subst P at_last (subst N e h)))
        ]

    pub searched_function : (new : Search) (i : ℕ) → i ≡ length mid.begun.items →
        Searches (rules_at m known (body.Function i)) (needs_at m (body.Function i)) (passes_at m (body.Function i)) (body.Function i)
        firsts.items mid new →
        IsSearched m known (length new.begun.items) 0 new
    searched_function new i is by =
        let F : ℕ → Type 0 = λ v. AreFirsts (body.Function v) firsts.items in
        searched_more (length old.begun.items) 0 (body.Function i) firsts.items mid new (subst F (sym is) are_firsts)
        (λ k lt. omega (arith, is, lt)) by searched_mid (length new.begun.items) 0 done
      where
        done : (other : BodyLocation) → IsDone (length new.begun.items) 0 other →
            IsDone (length old.begun.items) 0 other ⊎ (other ≡ body.Function i)
        done (body.Function k) le = elim (cases_lt k (length old.begun.items)) [
          | inl below ↦
              let long = longer in
              let kept = by.long in
              inr (ap body.Function (omega (arith, below, le, long, kept, is)))
          | inr past ↦ inl past
        ]
        done (body.EntryPoint k) le = inl le

  -- no function is left
  pub searched_all : (old new : Search) → length old.begun.items ≡ 0 → new.found.items ≡ old.found.items →
      IsSearched m known (length old.begun.items) 0 old → AreViolations m known new.found.items
  searched_all old new none same was violation =
      let P : List Violation → Type 0 = λ v. Contains v violation in
      (λ h. was.sound violation (subst P same h), λ is. subst P (sym same) (was.complete violation (all violation.place) is))
    where
      all : (place : BodyLocation) → IsDone (length old.begun.items) 0 place
      all (body.Function k) = omega (arith, none)
      all (body.EntryPoint k) = omega arith

  -- in any order
  pub violations_in_order : (found backward : List Violation) → IsPermutation found backward → AreViolations m known found →
      AreViolations m known backward
  violations_in_order found backward order are violation = (
    λ h. (are violation).0 (Contains-permutation backward found violation (IsPermutation-sym found backward order) h),
    λ is. Contains-permutation found backward violation order ((are violation).1 is),
  )
