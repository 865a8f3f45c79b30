-- A module has one verdict on uniform flow.
use Rattle.std.proofs.Common.{◌≡◌, ◌∙◌, ap, subst, sym, refl, ℕ, zero, suc, ◌+◌, ◌<◌, Bool, true, false, arith, inl, inr}
use Rattle.std.proofs.Common.{List, [], ◌∷◌, ◌++◌, Option, Some, None, length, length-append, slice_get, take}
use Rattle.std.specs.List.{Contains, enumerate_from, flat_map}
use Rattle.std.proofs.lemmas.Bool.{cases_order}
use Rattle.std.proofs.lemmas.List.Elements.{Contains-append_left, Contains-append_right, Contains-append_cases}
use Rattle.std.proofs.lemmas.Option.{same_Some}
use Rattle.shader_analysis_spec.proofs.ListLemmas.{in_flat, of_flat}
use Rattle.shader_ir.specs.declared.statement.RayPipelineFunction.TheVariants.{TraceRay}
use Rattle.shader_uniformity.specs.Apart.{block_rules, branch_rules, cases_rules, continuing_rules, enter_case_rules, enter_loop_rules}
use Rattle.shader_uniformity.specs.Apart.{falls_from, leave_loop_rules, simple_rules, step_rules}
use Rattle.shader_uniformity.specs.Calls.{call_rules, filled}
use Rattle.shader_uniformity.specs.Fault.{AreAllKnown, AreKnown, IsBefore, IsFaultAt, IsKnownBy, IsVerdict, function_rules, none, next}
use Rattle.shader_uniformity.specs.Differs.{pointees_from, shared_rule, source_rules}
use Rattle.shader_uniformity.specs.Fault.{left_from, severity}
use Rattle.shader_uniformity.specs.Leaves.{all_pass_rules, case_rules}
use Rattle.shader_uniformity.specs.Marks.{Marked, by_rule, itself, later, leads}
use Rattle.shader_uniformity.specs.Places.{places}
use Rattle.shader_uniformity.specs.Positions.{block_end, reads_at, step_end}
use Rattle.shader_uniformity.specs.Words.{Body, End, Then, Step, Leaf, Nested, If, Switch, Loop, Cases, NoCase, Case, Simple, Call}
use Rattle.shader_uniformity.specs.Words.{Expression, Function, Module, RayPipeline}
use Rattle.shader_uniformity.specs.declared.facts.BodyLocation.{BodyLocation}
use Rattle.shader_uniformity.specs.declared.facts.BodyLocation.TheVariants as body
use Rattle.shader_uniformity.specs.declared.facts.Fact.{Fact}
use Rattle.shader_uniformity.specs.declared.facts.Fact.TheVariants.{Always, Apart, Flow, Holds, Must}
use Rattle.shader_uniformity.specs.declared.facts.Place.{Place}
use Rattle.shader_uniformity.specs.declared.facts.Rule.{Rule}

-- ---- more rules

-- each rule of the first list is one of the second
record Within (xs ys : List Rule) : Type 0 where
  each : (r : Rule) → Contains xs r → Contains ys r

itself_within : (xs : List Rule) → Within xs xs
itself_within xs = record { each = λ r h. h }

joined : (a b c d : List Rule) → Within a b → Within c d → Within (a ++ c) (b ++ d)
joined a b c d first rest = record {
  each = λ r h. elim (Contains-append_cases a c r h) [
    | inl one ↦ Contains-append_left b d r (first.each r one)
    | inr other ↦ Contains-append_right b d r (rest.each r other)
  ];
}

prefixed : (a c d : List Rule) → Within c d → Within (a ++ c) (a ++ d)
prefixed a c d rest = joined a a c d (itself_within a) rest

followed : (a b c : List Rule) → Within a b → Within (a ++ c) (b ++ c)
followed a b c first = joined a b c c first (itself_within c)

behind : (x : Rule) (c d : List Rule) → Within c d → Within (x ∷ c) (x ∷ d)
behind x c d rest = prefixed (x ∷ []) c d rest

flat_within : (f : Rule → List Rule) (xs ys : List Rule) → Within xs ys → Within (flat_map f xs) (flat_map f ys)
flat_within f xs ys within = record {
  each = λ r h. let at = in_flat f xs r h in of_flat f ys at.0 r (within.each at.0 at.1) at.2;
}

marked_within : (xs ys : List Rule) → Within xs ys → (a b : Fact) → Marked xs a b → Marked ys a b
marked_within xs ys within a _ itself = itself
marked_within xs ys within a _ (by_rule {cause = cause} {effect = effect} among marked) =
    by_rule (within.each _ among) (marked_within xs ys within a cause marked)
marked_within xs ys within a _ (later {place = p} {moment = n} last le marked) =
    later last le (marked_within xs ys within a (Holds p n) marked)

-- what is known of a function, if it is
abbrev KnownWithin : Option (List Rule) → Option (List Rule) → Type 0
KnownWithin (Some known) (Some other) = Within known other
KnownWithin None None = Unit {0}
KnownWithin _ _ = ⊥

-- of each function
abbrev EachWithin : List (List Rule) → List (List Rule) → Type 0
EachWithin xs ys = (c : ℕ) → KnownWithin (slice_get xs c) (slice_get ys c)

call_within : (places : List Place) (n : ℕ) (around : Option ℕ) (arguments : List ℕ) (value : Option ℕ) (x y : Option (List Rule)) →
    KnownWithin x y → Within (call_rules places n around arguments value x) (call_rules places n around arguments value y)
call_within places n around arguments value (Some x) (Some y) within =
    joined _ _ _ _ (itself_within _) (flat_within (filled places n around arguments value) x y within)
call_within places n around arguments value (Some x) None within = absurd within
call_within places n around arguments value None (Some y) within = absurd within
call_within places n around arguments value None None within = itself_within _

module _ (es : List Expression) (ps : List Place) (xs ys : List (List Rule)) (severe : Bool) (each : EachWithin xs ys) where
  simple_within : (q n : ℕ) (around : Option ℕ) (simple : Simple) →
      Within (simple_rules es ps xs severe q n around simple) (simple_rules es ps ys severe q n around simple)
  simple_within q n around (Call c arguments result) =
      call_within ps n around arguments result (slice_get xs c) (slice_get ys c) (each c)
  simple_within q n around (RayPipeline (TraceRay a d p)) = itself_within _
  simple_within q n around _ = itself_within _

  mutual
    step_within : (q n : ℕ) (around : Option ℕ) (s : Step) →
        Within (step_rules es ps xs severe q n around s) (step_rules es ps ys severe q n around s)
    step_within q n around (Leaf simple) = simple_within q n around simple
    step_within q n around (Nested x) = behind _ _ _ (joined _ _ _ _ (block_within (n + 1) (n + 1) around x) (itself_within _))
    step_within q n around (If c x y) =
        let reject = block_end (n + 1) x in
        let end = block_end reject y in
        let accepted = prefixed (branch_rules n c (n + 1)) _ _ (block_within (n + 1) (n + 1) around x) in
        let rejected = joined _ _ _ _ (followed _ _ (branch_rules n c reject) accepted) (block_within reject reject around y) in
        followed _ _ (all_pass_rules reject q end) (followed _ _ (all_pass_rules (n + 1) q end) rejected)
    step_within q n around (Switch e cs) = joined _ _ _ _ (cases_within n e None ((n + 1) + 1) around cs) (itself_within _)
    step_within q n around (Loop x y k) =
        let inside = Some (reads_at n around) in
        let continuing = block_end ((n + 1) + 1) x in
        let entered = prefixed (enter_loop_rules n (n + 1) ((n + 1) + 1) k) _ _ (block_within ((n + 1) + 1) ((n + 1) + 1) inside x) in
        let rounds = followed _ _ (continuing_rules (n + 1) continuing) entered in
        followed _ _ (leave_loop_rules (n + 1) ((n + 1) + 1) continuing q (block_end continuing y))
        (joined _ _ _ _ rounds (block_within continuing continuing inside y))

    block_within : (q n : ℕ) (around : Option ℕ) (b : Body) →
        Within (block_rules es ps xs severe q n around b) (block_rules es ps ys severe q n around b)
    block_within q n around End = itself_within _
    block_within q n around (Then s b) =
        joined _ _ _ _ (step_within q n around s) (behind _ _ _ (block_within q (step_end n s) around b))

    cases_within : (n e : ℕ) (fallen : Option ℕ) (p : ℕ) (around : Option ℕ) (cs : Cases) →
        Within (cases_rules es ps xs severe n e fallen p around cs) (cases_rules es ps ys severe n e fallen p around cs)
    cases_within n e fallen p around NoCase = itself_within _
    cases_within n e fallen p around (Case v x fall cs) =
        let entered = prefixed (enter_case_rules n e fallen p) _ _ (block_within p p around x) in
        joined _ _ _ _ (followed _ _ (case_rules p (n + 1)) entered) (cases_within n e (falls_from fall p) (block_end p x) around cs)

-- ---- what is known

added : (xs ys : List (List Rule)) (x y : List Rule) → EachWithin xs ys → Within x y → EachWithin (xs ++ x ∷ []) (ys ++ y ∷ [])
added [] [] x y each within zero = within
added [] [] x y each within (suc c) = tt
added [] (_ ∷ ys) x y each within c = absurd (each 0)
added (_ ∷ xs) [] x y each within c = absurd (each 0)
added (_ ∷ xs) (_ ∷ ys) x y each within zero = each 0
added (_ ∷ xs) (_ ∷ ys) x y each within (suc c) = added xs ys x y (λ i. each (suc i)) within c

taken : (i : ℕ) (xs ys : List (List Rule)) → EachWithin xs ys → EachWithin (take i xs) (take i ys)
taken zero xs ys each c = tt
taken (suc i) [] [] each c = tt
taken (suc i) [] (_ ∷ ys) each c = absurd (each 0)
taken (suc i) (_ ∷ xs) [] each c = absurd (each 0)
taken (suc i) (_ ∷ xs) (_ ∷ ys) each zero = each 0
taken (suc i) (_ ∷ xs) (_ ∷ ys) each (suc c) = taken i xs ys (λ k. each (suc k)) c

module _ (m : Module) where
  function_within : (xs ys : List (List Rule)) (severe entry : Bool) (f : Function) → EachWithin xs ys →
      Within (function_rules m xs severe entry f) (function_rules m ys severe entry f)
  function_within xs ys severe entry f each =
      let block = block_within f.expressions (places m f.expressions) xs ys severe each 1 1 None f.body in
      let sources = flat_map (source_rules entry f.arguments) (enumerate_from 0 f.expressions) in
      followed _ _ (left_from (block_end 1 f.body) 0 f.arguments)
      (prefixed ((shared_rule ∷ pointees_from 0 f.arguments) ++ sources) _ _ (behind (leads Flow (Apart 1)) _ _ block))

  known_by : (xs ys : List (List Rule)) (f : Function) (known other : List Rule) → EachWithin xs ys → IsKnownBy m xs f known →
      IsKnownBy m ys f other → Within known other
  known_by xs ys f known other each one two = record {
    each = λ r h.
        let is = one.sound r.cause r.effect h in
        two.complete r.cause r.effect is.0 is.1
        (marked_within _ _ (function_within xs ys (severity m f) false f each) r.cause r.effect is.2);
  }

  all_within : (xs ys : List (List Rule)) → AreKnown m xs → AreKnown m ys → length xs ≡ length ys → EachWithin xs ys
  all_within _ _ none none long = λ c. tt
  all_within _ _ none (next {callees = ys} {known = other} all at by) long =
      let more = length-append ys (other ∷ []) in absurd (omega (arith, long, more))
  all_within _ _ (next {callees = xs} {known = known} all at by) none long =
      let more = length-append xs (known ∷ []) in absurd (omega (arith, long, more))
  all_within _ _ (next {callees = xs} {f = f} {known = known} all at by) (next {callees = ys} {f = g} {known = other} all' at' by') long =
      let first = length-append xs (known ∷ []) in
      let second = length-append ys (other ∷ []) in
      let same : length xs ≡ length ys = omega (arith, long, first, second) in
      let each = all_within xs ys all all' same in
      let function : g ≡ f = same_Some g f (sym at' ∙ (ap (λ i. slice_get m.functions i) (sym same) ∙ at)) in
      let P : Function → Type 0 = λ v. IsKnownBy m ys v other in
      added xs ys known other each (known_by xs ys f known other each by (subst P function by'))

  -- ---- the verdict

  fault_within : (xs ys : List (List Rule)) → EachWithin xs ys → (place : BodyLocation) → IsFaultAt m xs place → IsFaultAt m ys place
  fault_within xs ys each (body.Function i) h =
      let rules = function_within (take i xs) (take i ys) (severity m h.0) false h.0 (taken i xs ys each) in
      (h.0, h.1, marked_within _ _ rules Always Must h.2)
  fault_within xs ys each (body.EntryPoint i) h =
      let f = h.0.function in
      (h.0, h.1, marked_within _ _ (function_within xs ys (severity m f) true f each) Always Must h.2)

  -- of two places one comes first, or they are the same
  data Order (p q : BodyLocation) : Type 0 where
    before : IsBefore m p q → Order p q
    same : p ≡ q → Order p q
    after : IsBefore m q p → Order p q

  order : (p q : BodyLocation) → Order p q
  order (body.Function i) (body.Function k) = elim (cases_order i k) [
    | inl e ↦ same (ap (λ (n : ℕ). body.Function n) e)
    | inr other ↦ elim other [ inl lt ↦ before lt | inr gt ↦ after gt ]
  ]
  order (body.Function i) (body.EntryPoint k) = before tt
  order (body.EntryPoint i) (body.Function k) = after tt
  order (body.EntryPoint i) (body.EntryPoint k) = elim (cases_order i k) [
    | inl e ↦ same (ap (λ (n : ℕ). body.EntryPoint n) e)
    | inr other ↦ elim other [ inl lt ↦ before lt | inr gt ↦ after gt ]
  ]

  verdict_by : (xs ys : List (List Rule)) → EachWithin xs ys → EachWithin ys xs → (one other : Option BodyLocation) →
      IsVerdict m xs one → IsVerdict m ys other → one ≡ other
  verdict_by xs ys each back None None v w = refl
  verdict_by xs ys each back None (Some q) v w = absurd (v q (fault_within ys xs back q w.0))
  verdict_by xs ys each back (Some p) None v w = absurd (w p (fault_within xs ys each p v.0))
  verdict_by xs ys each back (Some p) (Some q) v w = elim (order p q) [
    | before first ↦ absurd (w.1 p first (fault_within xs ys each p v.0))
    | same e ↦ ap (λ (place : BodyLocation). Some place) e
    | after last ↦ absurd (v.1 q last (fault_within ys xs back q w.0))
  ]

  -- all functions are known, so the verdict is the same
  pub verdict_same : (xs ys : List (List Rule)) (one other : Option BodyLocation) → AreAllKnown m xs → AreAllKnown m ys →
      IsVerdict m xs one → IsVerdict m ys other → one ≡ other
  verdict_same xs ys one other all all' v w =
      let long : length xs ≡ length ys = all.1 ∙ sym all'.1 in
      verdict_by xs ys (all_within xs ys all.0 all'.0 long) (all_within ys xs all'.0 all.0 (sym long)) one other v w
