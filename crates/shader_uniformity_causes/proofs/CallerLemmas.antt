-- What callers pass, one body after another.
use Rattle.std.proofs.Common.{◌≡◌, refl, sym, ◌∙◌, ap, subst, ℕ, ◌+◌, ◌-◌, ◌<◌, ◌≤◌, ◌⊎◌, inl, inr, List, [], ◌∷◌}
use Rattle.std.proofs.Common.{Option, arith, length, slice_index_or}
use Rattle.std.proofs.lemmas.Bool.{cases_lt}
use Rattle.std.proofs.lemmas.List.Elements.{Contains-append_cases}
use Rattle.std.proofs.lemmas.Option.{slice_get_past}
use Rattle.std.specs.Global.{Vec}
use Rattle.std.specs.List.{Contains}
use Rattle.shader_uniformity.proofs.KnownLemmas.{here, nowhere, one, there}
use Rattle.shader_uniformity.specs.Fault.{IsBefore}
use Rattle.shader_uniformity.specs.Marks.{Marked}
use Rattle.shader_uniformity.specs.Traces.{rules_at}
use Rattle.shader_uniformity.specs.Words.{EntryPoint, Function, Module}
use Rattle.shader_uniformity.specs.declared.facts.BodyLocation.{BodyLocation}
use Rattle.shader_uniformity.specs.declared.facts.BodyLocation.TheVariants as body
use Rattle.shader_uniformity.specs.declared.facts.Fact.{Fact}
use Rattle.shader_uniformity.specs.declared.facts.Fact.TheVariants.{Always}
use Rattle.shader_uniformity.specs.declared.facts.Rule.{Rule}
use Rattle.shader_uniformity_needs.specs.Passes.{passes_at, passes_of_function, passes_of_point}
use Rattle.shader_uniformity_needs.specs.Violations.{always, passed, Begins, MayHold}
use Rattle.shader_uniformity_needs.specs.declared.needs.Pass.{Pass}
use Rattle.shader_uniformity_causes.proofs.CalleeLemmas.{passed_inside}
use Rattle.shader_uniformity_causes.proofs.PassLemmas.{in_map, kept_firsts, read_at, AreEmpty}
use Rattle.shader_uniformity_causes.specs.Callers.{beginning_of, firsts_of, passed_at, passed_to, AreCallers, AreFound, Finds, IsDone}
use Rattle.shader_uniformity_causes.specs.Callers.{IsPassed}
use Rattle.shader_uniformity_causes.specs.declared.causes.PassedBy.{PassedBy}

-- only a body within the module passes anything
module _ (m : Module) where
  no_function : (i : ℕ) → length m.functions ≤ i → passes_at m (body.Function i) ≡ []
  no_function i le = ap (λ (v : Option Function). passes_of_function m v) (slice_get_past m.functions i le)

  no_point : (i : ℕ) → length m.entry_points ≤ i → passes_at m (body.EntryPoint i) ≡ []
  no_point i le = ap (λ (v : Option EntryPoint). passes_of_point m v) (slice_get_past m.entry_points i le)

  outside : (place : BodyLocation) → IsDone (length m.functions) 0 place → (one : Pass) → Contains (passes_at m place) one → ⊥
  outside (body.Function i) le one h = let P : List Pass → Type 0 = λ v. Contains v one in nowhere one (subst P (no_function i le) h)
  outside (body.EntryPoint i) lt one h = omega (arith, lt)

  point_inside : (i : ℕ) (one : Pass) → Contains (passes_at m (body.EntryPoint i)) one → i < length m.entry_points
  point_inside i one h = elim (cases_lt i (length m.entry_points)) [
    | inl below ↦ below
    | inr past ↦ let P : List Pass → Type 0 = λ v. Contains v one in absurd (nowhere one (subst P (no_point i past) h))
  ]

module _ (m : Module) (known : List (List Rule)) where
  -- before the first body
  pub found_none : (callers : List (Vec PassedBy)) → length callers ≡ length m.functions → AreEmpty callers →
      AreFound m known (length m.functions) 0 callers
  found_none callers long empty = record {
    long = long;
    sound = λ i by h. let P : List PassedBy → Type 0 = λ v. Contains v by in absurd (nowhere by (subst P (empty i) h));
    complete = λ caller pass done before within may. absurd (outside m caller done pass within);
  }

  -- with what a call begins
  record IsBegun (place : BodyLocation) (fact : Fact) : Type 0 where
    caller : BodyLocation
    first : Fact
    pass : Pass
    at : place ≡ body.Function pass.function
    is : fact ≡ pass.beginning
    before : IsBefore m (body.Function pass.function) caller
    within : Contains (passes_at m caller) pass
    begins : Begins m known caller first
    marked : Marked (rules_at m known caller) first pass.cause

  begins_by : (place : BodyLocation) (fact : Fact) → Begins m known place fact → (fact ≡ Always) ⊎ IsBegun place fact
  begins_by _ _ always = inl refl
  begins_by _ _ (passed {caller = caller} {first = first} pass before within begins marked) = inr (record {
    caller = caller;
    first = first;
    pass = pass;
    at = refl;
    is = refl;
    before = before;
    within = within;
    begins = begins;
    marked = marked;
  })

  -- what is passed to a body whose callers are all found
  module _ (functions points : ℕ) (callers : List (Vec PassedBy)) (found : AreFound m known functions points callers) where
    sound_at : (place : BodyLocation) (by : PassedBy) → Contains (passed_at callers place) by → IsPassed m known place by
    sound_at (body.Function i) by h = found.sound i by h
    sound_at (body.EntryPoint i) by h = absurd (nowhere by h)

    module _ (place : BodyLocation)
        (done : (caller : BodyLocation) (pass : Pass) → place ≡ body.Function pass.function → IsBefore m place caller →
        Contains (passes_at m caller) pass → IsDone functions points caller) where
      begun_at : (fact : Fact) → Begins m known place fact → Contains (Always ∷ firsts_of (passed_at callers place)) fact
      begun_at fact b = elim (begins_by place fact b) [
        | inl e ↦
            let P : Fact → Type 0 = λ v. Contains (Always ∷ firsts_of (passed_at callers place)) v in
            subst P (sym e) (here Always (firsts_of (passed_at callers place)))
        | inr by ↦
            let B : BodyLocation → Type 0 = λ v. IsBefore m v by.caller in
            let P : BodyLocation → Type 0 = λ v. Contains (firsts_of (passed_at callers v)) by.pass.beginning in
            let F : Fact → Type 0 = λ v. Contains (Always ∷ firsts_of (passed_at callers place)) v in
            let h = found.complete by.caller by.pass (done by.caller by.pass by.at (subst B (sym by.at) by.before) by.within)
            by.before by.within (by.first, by.begins, by.marked) in
            subst F (sym by.is) (there Always (firsts_of (passed_at callers place)) by.pass.beginning (subst P (sym by.at) h))
      ]

      begins_at : (fact : Fact) → Contains (Always ∷ firsts_of (passed_at callers place)) fact → Begins m known place fact
      begins_at fact h = elim (Contains-append_cases (Always ∷ []) (firsts_of (passed_at callers place)) fact h) [
        | inl i ↦ let P : Fact → Type 0 = λ v. Begins m known place v in subst P (one Always fact i) always
        | inr rest ↦
            let by = in_map beginning_of (passed_at callers place) fact rest in
            let p = sound_at place by.0 by.1 in
            let may = p.holds in
            let B : BodyLocation → Type 0 = λ v. IsBefore m v by.0.caller in
            let P : BodyLocation → Type 0 = λ v. Begins m known v by.0.pass.beginning in
            let F : Fact → Type 0 = λ v. Begins m known place v in
            subst F by.2 (subst P (sym p.at) (passed by.0.pass (subst B p.at p.before) p.within may.1 may.2))
      ]

      -- one more body
      module _ (limit : ℕ) (new : List (Vec PassedBy)) (earlier : (i : ℕ) → i < limit → IsBefore m (body.Function i) place)
          (below : (i : ℕ) → IsBefore m (body.Function i) place → i < length m.functions → i < limit)
          (step : Finds (rules_at m known place) (passes_at m place) place limit (firsts_of (passed_at callers place)) callers new)
          (functions' points' : ℕ)
          (more : (other : BodyLocation) → IsDone functions' points' other → IsDone functions points other ⊎ (other ≡ place)) where
        sound_new : (i : ℕ) (by : PassedBy) → Contains (passed_to new i) by → IsPassed m known (body.Function i) by
        sound_new i by h = elim (step.sound i by h) [
          | inl before ↦ found.sound i by before
          | inr n ↦
              let B : BodyLocation → Type 0 = λ v. IsBefore m (body.Function i) v in
              let D : BodyLocation → Type 0 = λ v. Contains (passes_at m v) by.pass in
              let M : BodyLocation → Type 0 = λ v. MayHold m known v by.pass.cause in
              let follows = n.4 in
              record {
                at = ap body.Function (sym n.0);
                before = subst B (sym n.2) (earlier i n.1);
                within = subst D (sym n.2) n.3;
                holds = subst M (sym n.2) (follows.0, begins_at follows.0 follows.1, follows.2);
              }
        ]

        complete_new : (caller : BodyLocation) (pass : Pass) → IsDone functions' points' caller →
            IsBefore m (body.Function pass.function) caller → Contains (passes_at m caller) pass →
            MayHold m known caller pass.cause → Contains (firsts_of (passed_to new pass.function)) pass.beginning
        complete_new caller pass is before in_it may = elim (more caller is) [
          | inl old ↦
              kept_firsts (passed_to callers pass.function) (passed_to new pass.function) pass.beginning (step.kept pass.function)
              (found.complete caller pass old before in_it may)
          | inr e ↦
              let B : BodyLocation → Type 0 = λ v. IsBefore m (body.Function pass.function) v in
              let D : BodyLocation → Type 0 = λ v. Contains (passes_at m v) pass in
              let M : BodyLocation → Type 0 = λ v. MayHold m known v pass.cause in
              let here_may = subst M e may in
              step.complete pass (subst D e in_it) (here_may.0, begun_at here_may.0 here_may.1, here_may.2)
              (below pass.function (subst B e before) (passed_inside m caller pass in_it))
        ]

        found_more : AreFound m known functions' points' new
        found_more = record { long = step.long ∙ found.long; sound = sound_new; complete = complete_new }

  -- one more entry point
  pub found_point : (step limit : ℕ) (old new : List (Vec PassedBy)) → limit ≡ length m.functions →
      Finds (rules_at m known (body.EntryPoint step)) (passes_at m (body.EntryPoint step)) (body.EntryPoint step) limit [] old new →
      AreFound m known (length m.functions) step old → AreFound m known (length m.functions) (step + 1) new
  found_point step limit old new all by was =
      found_more (length m.functions) step old was (body.EntryPoint step) done limit new (λ k below. tt)
      (λ k before below. omega (arith, all, below)) by (length m.functions) (step + 1) more
    where
      done : (caller : BodyLocation) (pass : Pass) → body.EntryPoint step ≡ body.Function pass.function →
          IsBefore m (body.EntryPoint step) caller → Contains (passes_at m caller) pass → IsDone (length m.functions) step caller
      done caller pass same before within = absurd (cc)

      more : (other : BodyLocation) → IsDone (length m.functions) (step + 1) other →
          IsDone (length m.functions) step other ⊎ (other ≡ body.EntryPoint step)
      more (body.Function k) le = inl le
      more (body.EntryPoint k) lt = elim (cases_lt k step) [
        | inl below ↦ inl below
        | inr past ↦ inr (ap body.EntryPoint (omega (arith, lt, past)))
      ]

  -- one more function
  pub found_function : (count step i : ℕ) (v : Vec PassedBy) (firsts : List Fact) (old new : List (Vec PassedBy)) → step < count →
      i ≡ count - 1 - step → count ≡ length m.functions → v ≡ slice_index_or old i v → firsts ≡ firsts_of v.items →
      Finds (rules_at m known (body.Function i)) (passes_at m (body.Function i)) (body.Function i) i firsts old new →
      AreFound m known (count - step) (length m.entry_points) old → AreFound m known (count - (step + 1)) (length m.entry_points) new
  found_function count step i v firsts old new lt is all read at by was =
      let F : List Fact → Type 0 =
      λ x. Finds (rules_at m known (body.Function i)) (passes_at m (body.Function i)) (body.Function i) i x old new in
      found_more (count - step) (length m.entry_points) old was (body.Function i) done i new (λ k below. below) (λ k before below. before)
      (subst F same by) (count - (step + 1)) (length m.entry_points) more
    where
      same : firsts ≡ firsts_of (passed_to old i)
      same =
          let long = was.long in
          at ∙ ap (λ (x : Vec PassedBy). firsts_of x.items) read
          ∙ ap (λ (x : List PassedBy). firsts_of x) (sym (read_at old i v (omega (arith, long, is, lt, all))))

      done : (caller : BodyLocation) (pass : Pass) → body.Function i ≡ body.Function pass.function →
          IsBefore m (body.Function i) caller → Contains (passes_at m caller) pass →
          IsDone (count - step) (length m.entry_points) caller
      done (body.Function k) pass same before within = omega (arith, before, is, lt)
      done (body.EntryPoint k) pass same before within = point_inside m k pass within

      more : (other : BodyLocation) → IsDone (count - (step + 1)) (length m.entry_points) other →
          IsDone (count - step) (length m.entry_points) other ⊎ (other ≡ body.Function i)
      more (body.Function k) le = elim (cases_lt k (count - step)) [
        | inl below ↦ inr (ap body.Function (omega (arith, below, le, lt, is)))
        | inr past ↦ inl past
      ]
      more (body.EntryPoint k) lt = inl lt

  -- all bodies
  pub found_all : (callers : List (Vec PassedBy)) → AreFound m known 0 (length m.entry_points) callers → AreCallers m known callers
  found_all callers found = record {
    sound = λ place by h. sound_at 0 (length m.entry_points) callers found place by h;
    complete = λ place fact b. begun_at 0 (length m.entry_points) callers found place
        (λ caller pass same before within. done caller pass within) fact b;
  }
    where
      done : (caller : BodyLocation) (pass : Pass) → Contains (passes_at m caller) pass → IsDone 0 (length m.entry_points) caller
      done (body.Function k) pass within = omega arith
      done (body.EntryPoint k) pass within = point_inside m k pass within
