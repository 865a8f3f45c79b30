-- Calls are noted of the functions that they call.
use Rattle.std.proofs.Common.{◌≡◌, refl, sym, ◌∙◌, ap, subst, ℕ, zero, suc, ◌<◌, ◌≤◌, ◌⊎◌, inl, inr, true, false, List, [], ◌∷◌, ◌++◌}
use Rattle.std.proofs.Common.{Option, Some, None, arith, length, map, slice_index_or, slice_set, length-set}
use Rattle.std.proofs.lemmas.Bool.{cases_eq, false≢true}
use Rattle.std.proofs.lemmas.List.Elements.{Contains-append_cases, Contains-append_left, Contains-append_right, Contains-push}
use Rattle.std.proofs.lemmas.List.Elements.{Contains-push_cases}
use Rattle.std.specs.Global.{Vec}
use Rattle.std.specs.List.{Contains}
use Rattle.shader_uniformity.proofs.KnownLemmas.{here, nowhere, one, there}
use Rattle.shader_uniformity.specs.Cells.{holds}
use Rattle.shader_uniformity.specs.Marks.{Marked}
use Rattle.shader_uniformity.specs.declared.facts.BodyLocation.{BodyLocation}
use Rattle.shader_uniformity.specs.declared.facts.Fact.{Fact}
use Rattle.shader_uniformity.specs.declared.facts.Fact.TheVariants.{Always}
use Rattle.shader_uniformity.specs.declared.facts.Rule.{Rule}
use Rattle.shader_uniformity_needs.specs.Notes.{Follows, HasFollowers}
use Rattle.shader_uniformity_needs.specs.declared.needs.Pass.{Pass}
use Rattle.shader_uniformity_causes.specs.Callers.{beginning_of, firsts_of, passed_to, Adds, AddsTo, Finds, IsNoted, Notes}
use Rattle.shader_uniformity_causes.specs.Ways.{IsWayBack, IsWayToCaller}
use Rattle.shader_uniformity_causes.specs.declared.causes.PassedBy.{PassedBy}
use Rattle.shader_uniformity_causes.specs.declared.ways.Way.{Way}

-- what the image of a list has
pub in_map : {X Y : Type 0} (f : X → Y) (xs : List X) (y : Y) → Contains (map f xs) y → (x : X) × Contains xs x × (f x ≡ y)
in_map f [] y h = absurd (nowhere y h)
in_map f (x ∷ xs) y h = elim (Contains-append_cases (f x ∷ []) (map f xs) y h) [
  | inl i ↦ (x, here x xs, one (f x) y i)
  | inr rest ↦ let r = in_map f xs y rest in (r.0, there x xs r.0 r.1, r.2)
]

pub to_map : {X Y : Type 0} (f : X → Y) (xs : List X) (x : X) → Contains xs x → Contains (map f xs) (f x)
to_map f [] x h = absurd (nowhere x h)
to_map {Y = Y} f (z ∷ xs) x h = elim (Contains-append_cases (z ∷ []) xs x h) [
  | inl i ↦ let P : Y → Type 0 = λ v. Contains (f z ∷ map f xs) v in subst P (ap f (one z x i)) (here (f z) (map f xs))
  | inr rest ↦ there (f z) (map f xs) (f x) (to_map f xs x rest)
]

-- where each call is kept, so is each fact
pub kept_firsts : (old new : List PassedBy) (fact : Fact) → ((by : PassedBy) → Contains old by → Contains new by) →
    Contains (firsts_of old) fact → Contains (firsts_of new) fact
kept_firsts old new fact kept h =
    let by = in_map beginning_of old fact h in
    let P : Fact → Type 0 = λ v. Contains (firsts_of new) v in
    subst P by.2 (to_map beginning_of new by.0 (kept by.0 by.1))

-- a call is added
pub adds_none : (calls : List PassedBy) (by other : PassedBy) → Contains calls other → other.pass.beginning ≡ by.pass.beginning →
    Adds by calls calls
adds_none calls by other h e = record {
  kept = λ x i. i;
  sound = λ x i. inl i;
  complete = let P : Fact → Type 0 = λ v. Contains (firsts_of calls) v in subst P e (to_map beginning_of calls other h);
}

pub adds_one : (old new : List PassedBy) (by : PassedBy) → new ≡ old ++ by ∷ [] → Adds by old new
adds_one old new by is = record {
  kept = λ x i. let P : List PassedBy → Type 0 = λ v. Contains v x in subst P (sym is) (Contains-append_left old (by ∷ []) x i);
  sound = λ x i.
      let P : List PassedBy → Type 0 = λ v. Contains v x in
      elim (Contains-push_cases old by x (subst P is i)) [ inl before ↦ inl before | inr e ↦ inr (sym e) ];
  complete =
      let P : List PassedBy → Type 0 = λ v. Contains (firsts_of v) by.pass.beginning in
      subst P (sym is) (to_map beginning_of (old ++ by ∷ []) by (Contains-push old by));
}

-- the calls of each function, after a write to those of one
set_same : (callers : List (Vec PassedBy)) (i : ℕ) (v : Vec PassedBy) → i < length callers → passed_to (slice_set callers i v) i ≡ v.items
set_same [] i v within = absurd (omega arith)
set_same (x ∷ callers) zero v within = refl
set_same (x ∷ callers) (suc i) v within = set_same callers i v (omega arith)

set_other : (callers : List (Vec PassedBy)) (i other : ℕ) (v : Vec PassedBy) → (other ≡ i → ⊥) →
    passed_to (slice_set callers i v) other ≡ passed_to callers other
set_other [] i other v ne = refl
set_other (x ∷ callers) zero zero v ne = absurd (ne refl)
set_other (x ∷ callers) zero (suc other) v ne = refl
set_other (x ∷ callers) (suc i) zero v ne = refl
set_other (x ∷ callers) (suc i) (suc other) v ne = set_other callers i other v (λ e. ne (ap suc e))

pub read_at : (callers : List (Vec PassedBy)) (i : ℕ) (d : Vec PassedBy) → i < length callers →
    passed_to callers i ≡ (slice_index_or callers i d).items
read_at [] i d within = absurd (omega arith)
read_at (x ∷ callers) zero d within = refl
read_at (x ∷ callers) (suc i) d within = read_at callers i d (omega arith)

abbrev pub AreEmpty : List (Vec PassedBy) → Type 0
AreEmpty callers = (i : ℕ) → passed_to callers i ≡ []

pub none_more : (callers : List (Vec PassedBy)) (v : Vec PassedBy) → AreEmpty callers → v.items ≡ [] → AreEmpty (callers ++ v ∷ [])
none_more [] v h e zero = e
none_more [] v h e (suc i) = refl
none_more (x ∷ callers) v h e zero = h 0
none_more (x ∷ callers) v h e (suc i) = none_more callers v (λ p. h (suc p)) e i

-- a call is added to those of its function,
module _ (callers : List (Vec PassedBy)) (limit : ℕ) (by : PassedBy) where
  pub adds_within : (function : ℕ) (old new : Vec PassedBy) → function ≡ by.pass.function → function < limit → limit ≤ length callers →
      old ≡ slice_index_or callers function old → Adds by old.items new.items → AddsTo limit by callers (slice_set callers function new)
  adds_within function old new at lt le is adds = record {
    long = length-set callers function new;
    kept = kept;
    sound = sound;
    complete = λ below.
        let F : ℕ → Type 0 = λ v. Contains (firsts_of (passed_to (slice_set callers function new) v)) by.pass.beginning in
        let P : List PassedBy → Type 0 = λ v. Contains (firsts_of v) by.pass.beginning in
        subst F at (subst P (sym (set_same callers function new inside)) adds.complete);
  }
    where
      inside : function < length callers
      inside = omega (arith, lt, le)

      was : passed_to callers function ≡ old.items
      was = read_at callers function old inside ∙ ap (λ (v : Vec PassedBy). v.items) (sym is)

      now : passed_to (slice_set callers function new) function ≡ new.items
      now = set_same callers function new inside

      kept : (i : ℕ) (other : PassedBy) → Contains (passed_to callers i) other →
          Contains (passed_to (slice_set callers function new) i) other
      kept i other h = elim (cases_eq i function) [
        | inl same ↦
            let P : List PassedBy → Type 0 = λ v. Contains v other in
            let A : ℕ → Type 0 = λ v. Contains (passed_to callers v) other in
            let B : ℕ → Type 0 = λ v. Contains (passed_to (slice_set callers function new) v) other in
            subst B (sym same) (subst P (sym now) (adds.kept other (subst P was (subst A same h))))
        | inr ne ↦ let P : List PassedBy → Type 0 = λ v. Contains v other in subst P (sym (set_other callers function i new ne)) h
      ]

      sound : (i : ℕ) (other : PassedBy) → Contains (passed_to (slice_set callers function new) i) other →
          Contains (passed_to callers i) other ⊎ ((other ≡ by) × (by.pass.function ≡ i) × (i < limit))
      sound i other h = elim (cases_eq i function) [
        | inl same ↦
            let P : List PassedBy → Type 0 = λ v. Contains v other in
            let A : ℕ → Type 0 = λ v. Contains (passed_to callers v) other in
            let B : ℕ → Type 0 = λ v. Contains (passed_to (slice_set callers function new) v) other in
            elim (adds.sound other (subst P now (subst B same h))) [
              | inl before ↦ inl (subst A (sym same) (subst P (sym was) before))
              | inr e ↦ inr (e, sym at ∙ sym same, omega (arith, same, lt))
            ]
        | inr ne ↦ let P : List PassedBy → Type 0 = λ v. Contains v other in inl (subst P (set_other callers function i new ne) h)
      ]

  -- or not, if that isn't one of the first functions
  pub adds_nowhere : limit ≤ by.pass.function → AddsTo limit by callers callers
  adds_nowhere le = record {
    long = refl;
    kept = λ i other h. h;
    sound = λ i other h. inl h;
    complete = λ below. absurd (omega (arith, le, below));
  }

module _ (table : List (Option ℕ)) (place : BodyLocation) (limit : ℕ) where
  -- one call
  pub notes_pass : (pass : Pass) (by : PassedBy) (old new : List (Vec PassedBy)) → holds table pass.cause ≡ true →
      by ≡ record { caller = place; pass = pass } → AddsTo limit by old new → Notes table place limit (pass ∷ []) old new
  notes_pass pass by old new true_in is adds = record {
    long = adds.long;
    kept = adds.kept;
    sound = λ i other h. elim (adds.sound i other h) [
      | inl before ↦ inl before
      | inr n ↦
          let same : other ≡ record { caller = place; pass = pass } = n.0 ∙ is in
          let P : PassedBy → Type 0 = λ v. IsNoted table place limit (pass ∷ []) i v in
          inr (subst P (sym same) (record {
            at = ap (λ (v : PassedBy). v.pass.function) (sym is) ∙ n.1;
            before = n.2;
            caller = refl;
            within = here pass [];
            true_in = true_in;
          }))
    ];
    complete = λ other h t below.
        let same : by.pass ≡ other = ap (λ (v : PassedBy). v.pass) is ∙ one pass other h in
        let P : Pass → Type 0 = λ v. v.function < limit → Contains (firsts_of (passed_to new v.function)) v.beginning in
        subst P same adds.complete below;
  }

  pub notes_false : (pass : Pass) (callers : List (Vec PassedBy)) → holds table pass.cause ≡ false →
      Notes table place limit (pass ∷ []) callers callers
  notes_false pass callers false_in = record {
    long = refl;
    kept = λ i other h. h;
    sound = λ i other h. inl h;
    complete = λ other h t below.
        absurd (false≢true (sym false_in ∙ ap (λ (v : Pass). holds table v.cause) (one pass other h) ∙ t));
  }

  -- no calls, and one more
  pub notes_none : (callers : List (Vec PassedBy)) → Notes table place limit [] callers callers
  notes_none callers = record {
    long = refl;
    kept = λ i other h. h;
    sound = λ i other h. inl h;
    complete = λ other h t below. absurd (nowhere other h);
  }

  more_noted : (passes all : List Pass) (i : ℕ) (by : PassedBy) → ((one : Pass) → Contains passes one → Contains all one) →
      IsNoted table place limit passes i by → IsNoted table place limit all i by
  more_noted passes all i by kept n = record {
    at = n.at;
    before = n.before;
    caller = n.caller;
    within = kept by.pass n.within;
    true_in = n.true_in;
  }

  pub notes_more : (passes : List Pass) (last : Pass) (a b c : List (Vec PassedBy)) → Notes table place limit passes a b →
      Notes table place limit (last ∷ []) b c → Notes table place limit (passes ++ last ∷ []) a c
  notes_more passes last a b c first second = record {
    long = second.long ∙ first.long;
    kept = λ i by h. second.kept i by (first.kept i by h);
    sound = λ i by h. elim (second.sound i by h) [
      | inl before ↦
          elim (first.sound i by before) [
            | inl old ↦ inl old
            | inr n ↦ inr (more_noted passes (passes ++ last ∷ []) i by (λ x k. Contains-append_left passes (last ∷ []) x k) n)
          ]
      | inr n ↦ inr (more_noted (last ∷ []) (passes ++ last ∷ []) i by (λ x k. Contains-append_right passes (last ∷ []) x k) n)
    ];
    complete = λ pass h t below. elim (Contains-append_cases passes (last ∷ []) pass h) [
      | inl k ↦
          kept_firsts (passed_to b pass.function) (passed_to c pass.function) pass.beginning (second.kept pass.function)
          (first.complete pass k t below)
      | inr k ↦ second.complete pass k t below
    ];
  }

-- what the body at a place passes
pub found : (rules : List Rule) (passes : List Pass) (place : BodyLocation) (limit : ℕ) (firsts : List Fact) (table : List (Option ℕ))
    (old new : List (Vec PassedBy)) → HasFollowers rules firsts table → Notes table place limit passes old new →
    Finds rules passes place limit firsts old new
found rules passes place limit firsts table old new marks notes = record {
  long = notes.long;
  kept = notes.kept;
  sound = λ i by h. elim (notes.sound i by h) [
    | inl before ↦ inl before
    | inr n ↦ inr (n.at, n.before, n.caller, n.within, (marks by.pass.cause).0 n.true_in)
  ];
  complete = λ pass h follows below. notes.complete pass h ((marks pass.cause).1 follows) below;
}

-- a fact that follows neither from `Always` nor from what a call passes
no_way_back : (rules : List Rule) (calls : List PassedBy) (fact : Fact) → (Marked rules Always fact → ⊥) →
    ((by : PassedBy) → Contains calls by → Marked rules by.pass.beginning fact → ⊥) → Follows rules (firsts_of calls) fact → ⊥
no_way_back rules calls fact source caller follows = elim (Contains-append_cases (Always ∷ []) (firsts_of calls) follows.0 follows.1) [
  | inl i ↦
      let P : Fact → Type 0 = λ v. Marked rules v fact in
      source (subst P (sym (one Always follows.0 i)) follows.2)
  | inr rest ↦
      let by = in_map beginning_of calls follows.0 rest in
      let P : Fact → Type 0 = λ v. Marked rules v fact in
      caller by.0 by.1 (subst P (sym by.2) follows.2)
]

pub way_either : (rules : List Rule) (calls : List PassedBy) (fact : Fact) (way : Option Way) → (Marked rules Always fact → ⊥) →
    IsWayToCaller rules calls fact way → IsWayBack rules calls fact way
way_either rules calls fact (Some way) source is = is
way_either rules calls fact None source caller = no_way_back rules calls fact source caller
