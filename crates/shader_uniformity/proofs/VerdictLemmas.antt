-- The first function or entry point at fault is the verdict.
use Rattle.std.proofs.Common.{◌≡◌, refl, sym, ◌∙◌, ap, subst, ◌↔◌, ◌⊎◌, inl, inr, ℕ, zero, suc, ◌<◌, ◌+◌, Bool, true, false, ◌||◌}
use Rattle.std.proofs.Common.{List, [], ◌∷◌, ◌++◌, Option, Some, None, IsTrue, take, length, length-append, slice_get, get_or, arith}
use Rattle.std.proofs.Common.{take_all}
use Rattle.std.specs.List.{Contains}
use Rattle.std.proofs.lemmas.Bool.{false≢true}
use Rattle.std.proofs.lemmas.List.{take-append-le}
use Rattle.std.proofs.lemmas.List.Elements.{Contains-append_cases}
use Rattle.std.proofs.lemmas.Option.{none-some, same_Some, slice_get-get_or, slice_get_within}
use Rattle.shader_uniformity.specs.Fault.{AreAllKnown, AreFaulty, AreKnown, IsBefore, IsFault, IsFaultAt, IsKnownBy, IsVerdict, none, next}
use Rattle.shader_uniformity.specs.Fault.{arguments_from, function_rules, lefts_from, severity}
use Rattle.shader_uniformity.specs.Marks.{leads, Marked}
use Rattle.shader_uniformity.specs.Verdict.{faults_alone, function_or, is_fault_pair, is_fault_rule, point_from, verdict_from}
use Rattle.shader_uniformity.specs.Words.{EntryPoint, Function, Module}
use Rattle.shader_uniformity.specs.declared.facts.BodyLocation.{BodyLocation}
use Rattle.shader_uniformity.specs.declared.facts.BodyLocation.TheVariants as body
use Rattle.shader_uniformity.specs.declared.facts.Fact.{Fact}
use Rattle.shader_uniformity.specs.declared.facts.Fact.TheVariants.{Always, Flow, Argument, Behind, Apart, Leaves, Differs, Holds, Must}
use Rattle.shader_uniformity.specs.declared.facts.Fact.TheVariants.{Gives, Left}
use Rattle.shader_uniformity.specs.declared.facts.Rule.{Rule}
use Rattle.shader_uniformity.proofs.FunctionsLemmas.{at_seam}
use Rattle.shader_uniformity.proofs.KnownLemmas.{here, there, nowhere, one}

is_pair : (x y : Fact) → is_fault_pair x y ≡ true → leads x y ≡ leads Always Must
is_pair Always Always h = absurd (false≢true h)
is_pair Always Flow h = absurd (false≢true h)
is_pair Always (Argument i) h = absurd (false≢true h)
is_pair Always (Behind i) h = absurd (false≢true h)
is_pair Always (Apart n) h = absurd (false≢true h)
is_pair Always (Leaves j n) h = absurd (false≢true h)
is_pair Always (Differs e) h = absurd (false≢true h)
is_pair Always (Holds p t) h = absurd (false≢true h)
is_pair Always Must h = refl
is_pair Always Gives h = absurd (false≢true h)
is_pair Always (Left i) h = absurd (false≢true h)
is_pair Flow y h = absurd (false≢true h)
is_pair (Argument i) y h = absurd (false≢true h)
is_pair (Behind i) y h = absurd (false≢true h)
is_pair (Apart n) y h = absurd (false≢true h)
is_pair (Leaves j n) y h = absurd (false≢true h)
is_pair (Differs e) y h = absurd (false≢true h)
is_pair (Holds p t) y h = absurd (false≢true h)
is_pair Must y h = absurd (false≢true h)
is_pair Gives y h = absurd (false≢true h)
is_pair (Left i) y h = absurd (false≢true h)

-- what is known has a fault of each call
has_fault : (known : List Rule) → faults_alone known ≡ true → Contains known (leads Always Must)
has_fault [] h = absurd (false≢true h)
has_fault (rule ∷ known) h = of (λ k. has_fault known k) (is_fault_rule rule) refl h
  where
    of : (faults_alone known ≡ true → Contains known (leads Always Must)) → (b : Bool) → is_fault_rule rule ≡ b →
        b || faults_alone known ≡ true → Contains (rule ∷ known) (leads Always Must)
    of go true e k =
        let P : Rule → Type 0 = λ v. Contains (rule ∷ known) v in
        subst P (is_pair rule.cause rule.effect e) (here rule known)
    of go false e k = there rule known (leads Always Must) (go k)

finds_fault : (known : List Rule) → Contains known (leads Always Must) → faults_alone known ≡ true
finds_fault [] h = absurd (nowhere (leads Always Must) h)
finds_fault (rule ∷ known) h = elim (Contains-append_cases (rule ∷ []) known (leads Always Must) h) [
  | inl i ↦
      let P : Rule → Type 0 = λ v. is_fault_rule v || faults_alone known ≡ true in
      subst P (sym (one rule (leads Always Must) i)) refl
  | inr rest ↦ or_true (is_fault_rule rule) (faults_alone known) (finds_fault known rest)
]
  where
    or_true : (b c : Bool) → c ≡ true → b || c ≡ true
    or_true true c h = refl
    or_true false c h = h

-- an element before a last one, or it
in_push : {X : Type 0} (xs : List X) (x y : X) (i : ℕ) → slice_get (xs ++ x ∷ []) i ≡ Some y →
    ((i < length xs) × (slice_get xs i ≡ Some y)) ⊎ ((i ≡ length xs) × (x ≡ y))
in_push [] x y zero h = inr (refl, same_Some x y h)
in_push [] x y (suc i) h = absurd (none-some y h)
in_push (z ∷ xs) x y zero h = inl (omega arith, h)
in_push (z ∷ xs) x y (suc i) h = elim (in_push xs x y i h) [
  | inl before ↦ inl (omega (arith, before.0), before.1)
  | inr last ↦ inr (ap suc last.0, last.1)
]

module _ (m : Module) where
  record IsKnownAt (known : List (List Rule)) (i : ℕ) (rules : List Rule) : Type 0 where
    f : Function
    at : slice_get m.functions i ≡ Some f
    by : IsKnownBy m (take i known) f rules

  known_at : (known : List (List Rule)) → AreKnown m known → (i : ℕ) (rules : List Rule) → slice_get known i ≡ Some rules →
      IsKnownAt known i rules
  known_at _ none i rules h = absurd (none-some rules h)
  known_at _ (next {callees = callees} {f = f} {known = last} a at by) i rules h = elim (in_push callees last rules i h) [
    | inl before ↦
        let k = known_at callees a i rules before.1 in
        let P : List (List Rule) → Type 0 = λ v. IsKnownBy m v k.f rules in
        record { f = k.f; at = k.at; by = subst P (sym (take-append-le i callees (last ∷ []) (omega (arith, before.0)))) k.by }
    | inr e ↦
        let P : ℕ → Type 0 = λ v. IsKnownAt (callees ++ last ∷ []) v rules in
        let Q : List Rule → Type 0 = λ v. IsKnownAt (callees ++ last ∷ []) (length callees) v in
        let R : List (List Rule) → Type 0 = λ v. IsKnownBy m v f last in
        let whole : take (length callees) (callees ++ last ∷ []) ≡ callees =
        take-append-le (length callees) callees (last ∷ []) (omega arith) ∙ take_all (length callees) callees (omega arith) in
        subst P (sym e.0) (subst Q e.1 (record { f = f; at = at; by = subst R (sym whole) by }))
  ]

  -- a function whose known rules have a fault is at fault, and no other
  at_function : (known : List (List Rule)) → AreKnown m known → (i : ℕ) (rules : List Rule) → slice_get known i ≡ Some rules →
      faults_alone rules ≡ true → IsFaultAt m known (body.Function i)
  at_function known all i rules at h =
      let k = known_at known all i rules at in
      (k.f, k.at, (k.by.sound Always Must (has_fault rules h)).2)

  of_function : (known : List (List Rule)) → AreAllKnown m known → (i : ℕ) → IsFaultAt m known (body.Function i) →
      (rules : List Rule) × (slice_get known i ≡ Some rules) × (faults_alone rules ≡ true)
  of_function known all i fault =
      let within = slice_get_within m.functions i fault.0 fault.1 in
      let rules = get_or known i [] in
      let at = slice_get-get_or known i [] (omega (arith, within, all.1)) in
      let k = known_at known all.0 i rules at in
      let same = same_Some fault.0 k.f (sym fault.1 ∙ k.at) in
      let P : Function → Type 0 = λ v. Marked (function_rules m (take i known) (severity m v) false v) Always Must in
      let marked = subst P same fault.2 in (
        rules,
        at,
        finds_fault rules (k.by.complete Always Must (here Always (Flow ∷ arguments_from 0 k.f.arguments))
            (here Must (Gives ∷ lefts_from 0 k.f.arguments)) marked),
      )

  -- an entry point that is at fault by what is found, and no other
  record IsFoundAt (callees : List (List Rule)) (points : List EntryPoint) (i : ℕ) (fault : Bool) : Type 0 where
    point : EntryPoint
    at : slice_get points i ≡ Some point
    by : IsTrue fault ↔ IsFault m callees point.function

  first_points : {X : Type 0} (xs ys : List X) (i : ℕ) (x : X) → slice_get xs i ≡ Some x → slice_get (xs ++ ys) i ≡ Some x
  first_points [] ys i x h = absurd (none-some x h)
  first_points (y ∷ xs) ys zero x h = h
  first_points (y ∷ xs) ys (suc i) x h = first_points xs ys i x h

  found_long : (callees : List (List Rule)) (points : List EntryPoint) (faulty : List Bool) → AreFaulty m callees points faulty →
      length faulty ≡ length points
  found_long callees _ _ none = refl
  found_long callees _ _ (next {points = points} {faulty = faulty} point fault rest by) =
      let before = found_long callees points faulty rest in
      omega (arith, before, length-append points (point ∷ []), length-append faulty (fault ∷ []))

  found_at : (callees : List (List Rule)) (points : List EntryPoint) (faulty : List Bool) → AreFaulty m callees points faulty →
      (i : ℕ) (fault : Bool) → slice_get faulty i ≡ Some fault → IsFoundAt callees points i fault
  found_at callees _ _ none i fault h = absurd (none-some fault h)
  found_at callees _ _ (next {points = points} {faulty = faulty} point last rest by) i fault h = elim (in_push faulty last fault i h) [
    | inl before ↦
        let k = found_at callees points faulty rest i fault before.1 in
        record { point = k.point; at = first_points points (point ∷ []) i k.point k.at; by = k.by }
    | inr e ↦
        let P : ℕ → Type 0 = λ v. IsFoundAt callees (points ++ point ∷ []) v fault in
        let Q : Bool → Type 0 = λ v. IsFoundAt callees (points ++ point ∷ []) (length faulty) v in
        let R : ℕ → Type 0 = λ v. slice_get (points ++ point ∷ []) v ≡ Some point in
        let at = subst R (sym (found_long callees points faulty rest)) (at_seam points point []) in
        subst P (sym e.0) (subst Q e.1 (record { point = point; at = at; by = by }))
  ]

  at_point : (known : List (List Rule)) (faulty : List Bool) → AreFaulty m known m.entry_points faulty → (i : ℕ) →
      slice_get faulty i ≡ Some true → IsFaultAt m known (body.EntryPoint i)
  at_point known faulty found i at =
      let k = found_at known m.entry_points faulty found i true at in
      (k.point, k.at, k.by.0 refl)

  of_point : (known : List (List Rule)) (faulty : List Bool) → AreFaulty m known m.entry_points faulty → (i : ℕ) →
      IsFaultAt m known (body.EntryPoint i) → slice_get faulty i ≡ Some true
  of_point known faulty found i fault =
      let within = slice_get_within m.entry_points i fault.0 fault.1 in
      let long = found_long known m.entry_points faulty found in
      of (get_or faulty i false) (slice_get-get_or faulty i false (omega (arith, within, long)))
    where
      of : (b : Bool) → slice_get faulty i ≡ Some b → slice_get faulty i ≡ Some true
      of true at = at
      of false at =
          let k = found_at known m.entry_points faulty found i false at in
          let same = same_Some fault.0 k.point (sym fault.1 ∙ k.at) in
          let P : EntryPoint → Type 0 = λ v. IsFault m known v.function in
          absurd (false≢true (k.by.1 (subst P same fault.2)))

-- the first entry point at fault, of those from number i on
abbrev IsPoint : ℕ → List Bool → Option BodyLocation → Type 0
IsPoint i faulty None = (k : ℕ) → slice_get faulty k ≡ Some true → ⊥
IsPoint i faulty (Some place) =
    (k : ℕ) × (place ≡ body.EntryPoint (i + k)) × (slice_get faulty k ≡ Some true)
    × ((j : ℕ) → j < k → slice_get faulty j ≡ Some true → ⊥)

point_is : (i : ℕ) (faulty : List Bool) → IsPoint i faulty (point_from i faulty)
point_is i [] = λ k at. none-some true at
point_is i (true ∷ faulty) = (0, ap body.EntryPoint (omega arith), refl, λ j lt at. omega (arith, lt))
point_is i (false ∷ faulty) = later (point_from (i + 1) faulty) (point_is (i + 1) faulty)
  where
    not_first : slice_get (false ∷ faulty) 0 ≡ Some true → ⊥
    not_first at = false≢true (same_Some false true at)

    beyond : ((k : ℕ) → slice_get faulty k ≡ Some true → ⊥) → (k : ℕ) → slice_get (false ∷ faulty) k ≡ Some true → ⊥
    beyond h zero at = not_first at
    beyond h (suc k) at = h k at

    before : (n : ℕ) → ((j : ℕ) → j < n → slice_get faulty j ≡ Some true → ⊥) → (j : ℕ) → j < suc n →
        slice_get (false ∷ faulty) j ≡ Some true → ⊥
    before n h zero lt at = not_first at
    before n h (suc j) lt at = h j (omega (arith, lt)) at

    later : (found : Option BodyLocation) → IsPoint (i + 1) faulty found → IsPoint i (false ∷ faulty) found
    later None h = beyond h
    later (Some place) h = (suc h.0, h.1 ∙ ap body.EntryPoint (omega arith), h.2, before h.0 h.3)

-- the first function at fault, of those from number i on, or no function
abbrev HasNone : List (List Rule) → Type 0
HasNone known = (k : ℕ) (rules : List Rule) → slice_get known k ≡ Some rules → faults_alone rules ≡ true → ⊥

record IsFunction (i : ℕ) (known : List (List Rule)) (found : Option BodyLocation) : Type 0 where
  k : ℕ
  rules : List Rule
  is : found ≡ Some (body.Function (i + k))
  at : slice_get known k ≡ Some rules
  passes : faults_alone rules ≡ true
  before : (j : ℕ) (x : List Rule) → j < k → slice_get known j ≡ Some x → faults_alone x ≡ true → ⊥

abbrev IsFirst : List Bool → ℕ → List (List Rule) → Option BodyLocation → Type 0
IsFirst faulty i known found = ((found ≡ point_from 0 faulty) × HasNone known) ⊎ IsFunction i known found

first_is : (faulty : List Bool) (i : ℕ) (known : List (List Rule)) → IsFirst faulty i known (verdict_from i faulty known)
first_is faulty i [] = inl (refl, λ k x at t. none-some x at)
first_is faulty i (rules ∷ known) = of (faults_alone rules) refl (first_is faulty (i + 1) known)
  where
    rest : Option BodyLocation
    rest = verdict_from (i + 1) faulty known

    of : (b : Bool) → faults_alone rules ≡ b → IsFirst faulty (i + 1) known rest →
        IsFirst faulty i (rules ∷ known) (function_or b i rest)
    of true e first = inr (record {
      k = 0;
      rules = rules;
      is = ap (λ (n : ℕ). Some (body.Function n)) (omega arith);
      at = refl;
      passes = e;
      before = λ j x lt at t. omega (arith, lt);
    })
    of false e (inl clear) = inl (clear.0, others)
      where
        others : HasNone (rules ∷ known)
        others zero x at t =
            let P : List Rule → Type 0 = λ v. faults_alone v ≡ false in
            false≢true (sym (subst P (same_Some rules x at) e) ∙ t)
        others (suc k) x at t = clear.1 k x at t
    of false e (inr f) = inr (record {
      k = suc f.k;
      rules = f.rules;
      is = f.is ∙ ap (λ (n : ℕ). Some (body.Function n)) (omega arith);
      at = f.at;
      passes = f.passes;
      before = before;
    })
      where
        before : (j : ℕ) (x : List Rule) → j < suc f.k → slice_get (rules ∷ known) j ≡ Some x → faults_alone x ≡ true → ⊥
        before zero x lt at t =
            let P : List Rule → Type 0 = λ v. faults_alone v ≡ false in
            false≢true (sym (subst P (same_Some rules x at) e) ∙ t)
        before (suc j) x lt at t = f.before j x (omega (arith, lt)) at t

module _ (m : Module) (known : List (List Rule)) (faulty : List Bool) (all : AreAllKnown m known)
    (found : AreFaulty m known m.entry_points faulty) where
  no_function : HasNone known → (i : ℕ) → IsFaultAt m known (body.Function i) → ⊥
  no_function clear i fault = let o = of_function m known all i fault in clear i o.0 o.1 o.2

  points : HasNone known → (first : Option BodyLocation) → IsPoint 0 faulty first → IsVerdict m known first
  points clear None h = at
    where
      at : (place : BodyLocation) → IsFaultAt m known place → ⊥
      at (body.Function i) fault = no_function clear i fault
      at (body.EntryPoint i) fault = h i (of_point m known faulty found i fault)
  points clear (Some place) h = subst P (sym (h.1 ∙ ap body.EntryPoint (omega arith))) (at_point m known faulty found h.0 h.2, earlier)
    where
      P : BodyLocation → Type 0
      P v = IsVerdict m known (Some v)

      earlier : (before : BodyLocation) → IsBefore m before (body.EntryPoint h.0) → IsFaultAt m known before → ⊥
      earlier (body.Function k) lt fault = no_function clear k fault
      earlier (body.EntryPoint k) lt fault = h.3 k lt (of_point m known faulty found k fault)

  functions : (first : Option BodyLocation) → IsFirst faulty 0 known first → IsVerdict m known first
  functions first (inl clear) =
      let P : Option BodyLocation → Type 0 = λ v. IsVerdict m known v in
      subst P (sym clear.0) (points clear.1 (point_from 0 faulty) (point_is 0 faulty))
  functions first (inr f) =
      subst P (sym (f.is ∙ ap (λ (n : ℕ). Some (body.Function n)) (omega arith)))
      (at_function m known all.0 f.k f.rules f.at f.passes, earlier)
    where
      P : Option BodyLocation → Type 0
      P v = IsVerdict m known v

      earlier : (before : BodyLocation) → IsBefore m before (body.Function f.k) → IsFaultAt m known before → ⊥
      earlier (body.Function k) lt fault =
          let o = of_function m known all k fault in f.before k o.0 lt o.1 o.2
      earlier (body.EntryPoint k) lt fault = absurd lt

  -- the first function or entry point at fault is the verdict
  pub verdict_is : IsVerdict m known (verdict_from 0 faulty known)
  verdict_is = functions (verdict_from 0 faulty known) (first_is faulty 0 known)
