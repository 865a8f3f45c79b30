-- What a call leaves keeps to the marks of its caller.
use Rattle.std.proofs.Common.{◌≡◌, refl, sym, ◌∙◌, subst, ◌⊎◌, inl, inr, ℕ, zero, suc, ◌+◌, ◌<◌, ◌≤◌, true, false}
use Rattle.std.proofs.Common.{List, [], ◌∷◌, ◌++◌, Option, Some, None, slice_get, length, arith, length-append}
use Rattle.std.proofs.lemmas.Bool.{cases_lt}
use Rattle.std.proofs.lemmas.List.Elements.{Contains-append_left, Contains-append_right, Contains-append_cases, Contains-push_cases}
use Rattle.std.specs.List.{Contains, enumerate_from, flat_map}
use Rattle.shader_ir.specs.declared.expression.Expression.TheVariants as form
use Rattle.shader_uniformity.specs.Apart.{block_rules}
use Rattle.shader_uniformity.specs.Calls.{call_rules, cause_of, effect_rules, filled, gives_to, leaves_to}
use Rattle.shader_uniformity.specs.Differs.{pointees_from, shared_rule, source_rules}
use Rattle.shader_uniformity.specs.Fault.{AreKnown, IsKnown, IsKnownBy, arguments_from, beginnings, endings, function_rules, left_from}
use Rattle.shader_uniformity.specs.Fault.{lefts_from}
use Rattle.shader_uniformity.specs.Fault.{severity}
use Rattle.shader_uniformity.specs.Fault as known_by
use Rattle.shader_uniformity.specs.Lockstep.{On, State, Meaning, Group, Begins, Content, Passes, PassedTo, Takes, argument_value}
use Rattle.shader_uniformity.specs.Lockstep.{first_value, passed_value}
use Rattle.shader_uniformity.specs.Lockstep as run
use Rattle.shader_uniformity.specs.Marks.{leads, Marked, itself, by_rule, later}
use Rattle.shader_uniformity.specs.Places.{place_at, places}
use Rattle.shader_uniformity.specs.Positions.{block_end, reads_at, writes_at}
use Rattle.shader_uniformity.specs.Words.{Expression, Function, FunctionArgument, Module}
use Rattle.shader_uniformity.specs.declared.facts.Fact.{Fact}
use Rattle.shader_uniformity.specs.declared.facts.Fact.TheVariants.{Always, Flow, Argument, Behind, Apart, Differs, Holds, Must, Gives}
use Rattle.shader_uniformity.specs.declared.facts.Fact.TheVariants.{Left}
use Rattle.shader_uniformity.specs.declared.facts.Place.{Place}
use Rattle.shader_uniformity.specs.declared.facts.Place.TheVariants.{Local, Pointee, Shared, Fixed}
use Rattle.shader_uniformity.specs.declared.facts.Rule.{Rule}
use Rattle.shader_uniformity.proofs.FineLemmas.{here, there, Cl, head, tail, left, right, AreMarks, is_own, Fine, assigned}
use Rattle.shader_uniformity.proofs.StatusLemmas.{Alike}

-- members of lists
pub in_flat : {X Y : Type 0} (f : X → List Y) (xs : List X) (x : X) (y : Y) → Contains xs x → Contains (f x) y → Contains (flat_map f xs) y
in_flat f [] x y h k = let lt : h.0 < 0 = h.1 in absurd (omega arith)
in_flat {X} f (z ∷ zs) x y h k = elim (Contains-append_cases (z ∷ []) zs x h) [
  | inl one ↦ elim (Contains-push_cases [] z x one) [
    | inl none ↦ let lt : none.0 < 0 = none.1 in absurd (omega arith)
    | inr e ↦ let P : X → Type 0 = λ v. Contains (f v) y in Contains-append_left (f z) (flat_map f zs) y (subst P (sym e) k)
  ]
  | inr rest ↦ Contains-append_right (f z) (flat_map f zs) y (in_flat f zs x y rest k)
]

pub enumerated : {X : Type 0} (xs : List X) (n i k : ℕ) (x : X) → n + i ≡ k → slice_get xs i ≡ Some x →
    Contains (enumerate_from n xs) (k, x)
enumerated [] n i k x e is = absurd (cc)
enumerated {X} (y ∷ ys) n zero k x e is =
    let same : y ≡ x = cc in
    let at : n ≡ k = omega (arith, e) in
    let P : ℕ → Type 0 = λ v. Contains ((n, y) ∷ enumerate_from (n + 1) ys) (v, y) in
    let Q : X → Type 0 = λ v. Contains ((n, y) ∷ enumerate_from (n + 1) ys) (k, v) in
    subst Q same (subst P at (here (n, y) (enumerate_from (n + 1) ys)))
enumerated (y ∷ ys) n (suc i) k x e is =
    there (n, y) (enumerate_from (n + 1) ys) (k, x) (enumerated ys (n + 1) i k x (omega (arith, e)) is)

module _ (a : FunctionArgument) where
  begins_with : (args : List FunctionArgument) (n i k : ℕ) → n + i ≡ k → slice_get args i ≡ Some a →
      Contains (arguments_from n args) (Argument k) × Contains (arguments_from n args) (Behind k)
  begins_with [] n i k e is = absurd (cc)
  begins_with (b ∷ args) n zero k e is =
      let at : n ≡ k = omega (arith, e) in
      let P : ℕ → Type 0 = λ v. Contains (arguments_from n (b ∷ args)) (Argument v) × Contains (arguments_from n (b ∷ args)) (Behind v) in
      subst P at (
        here (Argument n) (Behind n ∷ arguments_from (n + 1) args),
        there (Argument n) (Behind n ∷ arguments_from (n + 1) args) (Behind n) (here (Behind n) (arguments_from (n + 1) args)),
      )
  begins_with (b ∷ args) n (suc i) k e is =
      let r = begins_with args (n + 1) i k (omega (arith, e)) is in
      let rest = arguments_from (n + 1) args in (
        there (Argument n) (Behind n ∷ rest) (Argument k) (there (Behind n) rest (Argument k) r.0),
        there (Argument n) (Behind n ∷ rest) (Behind k) (there (Behind n) rest (Behind k) r.1),
      )

  pub points : (args : List FunctionArgument) (n i k : ℕ) → n + i ≡ k → slice_get args i ≡ Some a →
      Contains (pointees_from n args) (leads (Behind k) (Holds (Pointee k) 0))
  points [] n i k e is = absurd (cc)
  points (b ∷ args) n zero k e is =
      let at : n ≡ k = omega (arith, e) in
      let P : ℕ → Type 0 = λ v. Contains (pointees_from n (b ∷ args)) (leads (Behind v) (Holds (Pointee v) 0)) in
      subst P at (here (leads (Behind n) (Holds (Pointee n) 0)) (pointees_from (n + 1) args))
  points (b ∷ args) n (suc i) k e is =
      there (leads (Behind n) (Holds (Pointee n) 0)) (pointees_from (n + 1) args) _ (points args (n + 1) i k (omega (arith, e)) is)

  leaves : (moment : ℕ) (args : List FunctionArgument) (n i k : ℕ) → n + i ≡ k → slice_get args i ≡ Some a →
      Contains (left_from moment n args) (leads (Holds (Pointee k) moment) (Left k)) × Contains (lefts_from n args) (Left k)
  leaves moment [] n i k e is = absurd (cc)
  leaves moment (b ∷ args) n zero k e is =
      let at : n ≡ k = omega (arith, e) in
      let P : ℕ → Type 0 = λ v. Contains (left_from moment n (b ∷ args)) (leads (Holds (Pointee v) moment) (Left v))
      × Contains (lefts_from n (b ∷ args)) (Left v) in
      subst P at (here (leads (Holds (Pointee n) moment) (Left n)) (left_from moment (n + 1) args), here (Left n) (lefts_from (n + 1) args))
  leaves moment (b ∷ args) n (suc i) k e is =
      let r = leaves moment args (n + 1) i k (omega (arith, e)) is in (
        there (leads (Holds (Pointee n) moment) (Left n)) (left_from moment (n + 1) args) _ r.0,
        there (Left n) (lefts_from (n + 1) args) (Left k) r.1,
      )

-- what is known of an earlier function
get_left : {X : Type 0} (xs ys : List X) (i : ℕ) → i < length xs → slice_get (xs ++ ys) i ≡ slice_get xs i
get_left [] ys i lt = let wrong : i < 0 = lt in absurd (omega arith)
get_left (x ∷ xs) ys zero lt = refl
get_left (x ∷ xs) ys (suc i) lt = let below : suc i < suc (length xs) = lt in get_left xs ys i (omega (arith, below))

get_seam : {X : Type 0} (xs : List X) (y : X) (i : ℕ) → i ≡ length xs → slice_get (xs ++ y ∷ []) i ≡ Some y
get_seam [] y i e = let P : ℕ → Type 0 = λ v. slice_get (y ∷ []) v ≡ Some y in let zeroth : 0 ≡ i = sym e in subst P zeroth refl
get_seam (x ∷ xs) y zero e = let wrong : 0 ≡ suc (length xs) = e in absurd (omega (arith, wrong))
get_seam (x ∷ xs) y (suc i) e = let same : suc i ≡ suc (length xs) = e in get_seam xs y i (omega (arith, same))

pub record IsEarlier (m : Module) (callees : List (List Rule)) (c : ℕ) (d : Function) : Type 0 where
  pub before : List (List Rule)
  pub are : AreKnown m before
  pub long : length before ≡ c
  pub known : List Rule
  pub at : slice_get callees c ≡ Some known
  pub exact : IsKnownBy m before d known

pub earlier : (m : Module) (callees : List (List Rule)) → AreKnown m callees → (c : ℕ) (d : Function) → c < length callees →
    slice_get m.functions c ≡ Some d → IsEarlier m callees c d
earlier m _ known_by.none c d lt is = let wrong : c < 0 = lt in absurd (omega arith)
earlier m _ (known_by.next {callees = cs} {f = f} {known = known} all at one) c d lt is = elim (cases_lt c (length cs)) [
  | inl below ↦
      let r = earlier m cs all c d below is in
      record {
        before = r.before;
        are = r.are;
        long = r.long;
        known = r.known;
        at = get_left cs (known ∷ []) c below ∙ r.at;
        exact =
            r.exact;
      }
  | inr le ↦
      let whole = length-append cs (known ∷ []) in
      let same : c ≡ length cs = omega (arith, lt, le, whole) in
      let P : ℕ → Type 0 = λ v. slice_get m.functions v ≡ Some d in
      let twice : Some f ≡ Some d = sym at ∙ subst P same is in
      let function : f ≡ d = cc in
      let Q : Function → Type 0 = λ v. IsKnownBy m cs v known in
      record { before = cs; are = all; long = sym same; known = known; at = get_seam cs known c same; exact = subst Q function one }
]

module _ (I V : Type 0) (M : Fact → Type 0) (k : AreMarks M) (t : Meaning I V) (m : Module) (d : Function) (before : List (List Rule))
    (all : List Place) (n : ℕ) (around : Option ℕ) (arguments : List ℕ) (value : Option ℕ) where
  -- the facts of the called function that follow from those that its call brings
  abbrev pub Inner : Fact → Type 0
  Inner x = (b : Fact) × Contains (beginnings d.arguments) b × M (cause_of all n around arguments value b)
      × Marked (function_rules m before (severity m d) false d) b x

  abbrev blocks : List Rule
  blocks = block_rules d.expressions (places m d.expressions) before (severity m d) 1 1 None d.body

  abbrev lasts : List Rule
  lasts = left_from (block_end 1 d.body) 0 d.arguments

  abbrev sources : List Rule
  sources = flat_map (source_rules false d.arguments) (enumerate_from 0 d.expressions)

  abbrev firsts : List Rule
  firsts = shared_rule ∷ pointees_from 0 d.arguments

  inner_closed : Cl Inner (function_rules m before (severity m d) false d)
  inner_closed r within x = (x.0, x.1, x.2, by_rule within x.3)

  inner_most : Cl Inner ((firsts ++ sources) ++ (leads Flow (Apart 1) ∷ blocks))
  inner_most = left Inner ((firsts ++ sources) ++ (leads Flow (Apart 1) ∷ blocks)) lasts inner_closed

  pub inner_block : Cl Inner blocks
  inner_block = tail Inner (leads Flow (Apart 1)) blocks (right Inner (firsts ++ sources) (leads Flow (Apart 1) ∷ blocks) inner_most)

  inner_first : Cl Inner firsts
  inner_first = left Inner firsts sources (left Inner (firsts ++ sources) (leads Flow (Apart 1) ∷ blocks) inner_most)

  inner_source : Cl Inner sources
  inner_source = right Inner firsts sources (left Inner (firsts ++ sources) (leads Flow (Apart 1) ∷ blocks) inner_most)

  inner_flow : Inner Flow → Inner (Apart 1)
  inner_flow = head Inner (leads Flow (Apart 1)) blocks (right Inner (firsts ++ sources) (leads Flow (Apart 1) ∷ blocks) inner_most)

  inner_last : Cl Inner lasts
  inner_last = right Inner ((firsts ++ sources) ++ (leads Flow (Apart 1) ∷ blocks)) lasts inner_closed

  begins_always : Inner Always
  begins_always = (Always, here Always (Flow ∷ arguments_from 0 d.arguments), k.always, itself)

  pub begins_flow : M (Apart n) → Inner (Apart 1)
  begins_flow x = inner_flow
      (Flow, there Always (Flow ∷ arguments_from 0 d.arguments) Flow (here Flow (arguments_from 0 d.arguments)), x, itself)

  in_beginnings : (b : Fact) → Contains (arguments_from 0 d.arguments) b → Contains (beginnings d.arguments) b
  in_beginnings b h = there Always (Flow ∷ arguments_from 0 d.arguments) b (there Flow (arguments_from 0 d.arguments) b h)

  inner_later : (p : Place) (s u : ℕ) → s ≤ u → Inner (Holds p s) → Inner (Holds p u)
  inner_later p s u le x = (x.0, x.1, x.2, later u le x.3)

  pub inner_marks : AreMarks Inner
  inner_marks = record {
    always = begins_always;
    shared = λ u. inner_later Shared 0 u (omega arith) (head Inner shared_rule (pointees_from 0 d.arguments) inner_first begins_always);
    later = inner_later;
  }

  -- the arguments that are passed
  passed_argument : (j : ℕ) (a : FunctionArgument) (e : ℕ) → slice_get d.arguments j ≡ Some a → slice_get arguments j ≡ Some e →
      M (Differs e) → Inner (Argument j)
  passed_argument j a e is given x =
      let P : Option ℕ → Type 0 = λ v. M (passed_differs' v) in
      (Argument j, in_beginnings (Argument j) (begins_with a d.arguments 0 j j (omega arith) is).0, subst P (sym given) x, itself)
    where
      passed_differs' : Option ℕ → Fact
      passed_differs' (Some e) = Differs e
      passed_differs' None = Always

  passed_pointee : (j : ℕ) (a : FunctionArgument) (e : ℕ) → slice_get d.arguments j ≡ Some a → slice_get arguments j ≡ Some e →
      M (Holds (place_at all e) (reads_at n around)) → Inner (Holds (Pointee j) 1)
  passed_pointee j a e is given x =
      let P : Option ℕ → Type 0 = λ v. M (passed_holds' v) in
      let b : Inner (Behind j) =
      (Behind j, in_beginnings (Behind j) (begins_with a d.arguments 0 j j (omega arith) is).1, subst P (sym given) x, itself) in
      inner_later (Pointee j) 0 1 (omega arith) (inner_first (leads (Behind j) (Holds (Pointee j) 0))
      (there shared_rule (pointees_from 0 d.arguments) (leads (Behind j) (Holds (Pointee j) 0))
      (points a d.arguments 0 j j (omega arith) is)) b)
    where
      passed_holds' : Option ℕ → Fact
      passed_holds' (Some e) = Holds (place_at all e) (reads_at n around)
      passed_holds' None = Always

  module _ (s u : State I V) (fine : Fine I V M k (reads_at n around) s) (b : Begins I V t (place_at all) d arguments s u) where
    argument_same : (h j : ℕ) → slice_get d.expressions h ≡ Some (form.FunctionArgument j) → (a : Option FunctionArgument) →
        slice_get d.arguments j ≡ a → (e : Option ℕ) → slice_get arguments j ≡ e →
        ((i x : I) → argument_value I V t s i a e ≡ argument_value I V t s x a e) ⊎ Inner (Differs h)
    argument_same h j at None is e given = inl (λ i x. refl)
    argument_same h j at (Some a) is None given = inl (λ i x. refl)
    argument_same h j at (Some a) is (Some e) given = elim (fine.values e) [
      | inl same ↦ inl same
      | inr x ↦ inr (inner_source (leads (Argument j) (Differs h))
          (in_flat (source_rules false d.arguments) (enumerate_from 0 d.expressions)
          (h, form.FunctionArgument j) (leads (Argument j) (Differs h))
          (enumerated d.expressions 0 h h (form.FunctionArgument j) (omega arith) at)
          (here (leads (Argument j) (Differs h)) [])) (passed_argument j a e is given x))
    ]

    first_value_same : (h : ℕ) (x : Option Expression) → slice_get d.expressions h ≡ x →
        ((i y : I) → first_value I V t d arguments s i h x ≡ first_value I V t d arguments s y h x) ⊎ Inner (Differs h)
    first_value_same h None is = inl (λ i y. refl)
    first_value_same h (Some (form.FunctionArgument j)) is =
        argument_same h j is (slice_get d.arguments j) refl (slice_get arguments j) refl
    first_value_same h (Some x) is = inl (λ i y. refl)

    content_of : (q : Place) (D : Type 0) → (M (Holds q (reads_at n around)) → D) →
        D ⊎ ((i x : I) (v w : V) → Content I V t q (s.memory i q) v → Content I V t q (s.memory x q) w → v ≡ w)
    content_of (Local l) D to = elim (fine.memory (Local l) refl) [
      | inl same ↦ inr (λ i x v w a c. a ∙ same i x ∙ sym c)
      | inr y ↦ inl (to y)
    ]
    content_of (Pointee l) D to = elim (fine.memory (Pointee l) refl) [
      | inl same ↦ inr (λ i x v w a c. a ∙ same i x ∙ sym c)
      | inr y ↦ inl (to y)
    ]
    content_of Shared D to = inl (to (k.shared (reads_at n around)))
    content_of Fixed D to = inr (λ i x v w a c. a ∙ sym c)

    pointee_same : (j : ℕ) (a : Option FunctionArgument) → slice_get d.arguments j ≡ a → (e : Option ℕ) → slice_get arguments j ≡ e →
        ((i : I) → PassedTo I V t (place_at all) s i a e (u.memory i (Pointee j))) →
        ((i x : I) → u.memory i (Pointee j) ≡ u.memory x (Pointee j)) ⊎ Inner (Holds (Pointee j) 1)
    pointee_same j None is e given by = inl (λ i x. by i ∙ sym (by x))
    pointee_same j (Some a) is None given by = inl (λ i x. by i ∙ sym (by x))
    pointee_same j (Some a) is (Some e) given by =
        elim (content_of (place_at all e) (Inner (Holds (Pointee j) 1)) (passed_pointee j a e is given)) [
          | inl y ↦ inr y
          | inr same ↦ inl (λ i x. same i x (u.memory i (Pointee j)) (u.memory x (Pointee j)) (by i) (by x))
        ]

    memory_same : (p : Place) → is_own p ≡ true → ((i x : I) → u.memory i p ≡ u.memory x p) ⊎ Inner (Holds p 1)
    memory_same (Local l) own = inl (λ i x. b.locals i l ∙ sym (b.locals x l))
    memory_same (Pointee j) own = pointee_same j (slice_get d.arguments j) refl (slice_get arguments j) refl (λ i. b.pointees i j)
    memory_same Shared own = absurd (cc)
    memory_same Fixed own = absurd (cc)

    pub begins_fine : Fine I V Inner inner_marks 1 u
    begins_fine = record {
      values = λ h. elim (first_value_same h (slice_get d.expressions h) refl) [
        | inl same ↦ inl (λ i x. b.values i h ∙ same i x ∙ sym (b.values x h))
        | inr y ↦ inr y
      ];
      memory = memory_same;
      results = inl (λ i x. b.results i ∙ sym (b.results x));
    }

  -- the place of an argument, if it has one
  abbrev PassesAt : ℕ → Place → Type 0
  PassesAt j p = Passes I V (place_at all) d arguments j p

  module _ (known : List Rule) (exact : IsKnownBy m before d known)
      (c : Cl M (call_rules all n around arguments value (Some known))) where
    outward : (last : Fact) → Contains (endings d.arguments) last → Inner last → (b : Fact) × M (cause_of all n around arguments value b)
        × ((r : Rule) → Contains (effect_rules all n around arguments value (cause_of all n around arguments value b) last) r →
        M r.cause → M r.effect)
    outward last h x = (
      x.0,
      x.2,
      λ r within y. right M (gives_to (Apart n) value) (flat_map (filled all n around arguments value) known) c
          r
          (in_flat (filled all n around arguments value) known (leads x.0 last) r (exact.complete x.0 last x.1 h x.3) within) y,
    )

    pub must_out : Inner Must → M Must
    must_out x =
        let o = outward Must (here Must (Gives ∷ lefts_from 0 d.arguments)) x in
        o.2 (leads (cause_of all n around arguments value o.0) Must)
        (here (leads (cause_of all n around arguments value o.0) Must) []) o.1

    gives_out : (e : ℕ) → value ≡ Some e → Inner Gives → M (Differs e)
    gives_out e is x =
        let o = outward Gives (there Must (Gives ∷ lefts_from 0 d.arguments) Gives (here Gives (lefts_from 0 d.arguments))) x in
        let cause = cause_of all n around arguments value o.0 in
        let P : Option ℕ → Type 0 = λ v. Contains (gives_to cause v) (leads cause (Differs e)) in
        o.2 (leads cause (Differs e)) (subst P (sym is) (here (leads cause (Differs e)) [])) o.1

    apart_out : (e : ℕ) → value ≡ Some e → M (Apart n) → M (Differs e)
    apart_out e is x =
        let P : Option ℕ → Type 0 = λ v. Contains (gives_to (Apart n) v) (leads (Apart n) (Differs e)) in
        left M (gives_to (Apart n) value) (flat_map (filled all n around arguments value) known) c (leads (Apart n) (Differs e))
        (subst P (sym is) (here (leads (Apart n) (Differs e)) [])) x

    left_out : (j : ℕ) (p : Place) → PassesAt j p → Inner (Holds (Pointee j) (block_end 1 d.body)) → M (Holds p (writes_at n around))
    left_out j p h x =
        let at = leaves h.1 (block_end 1 d.body) d.arguments 0 j j (omega arith) h.3 in
        let o = outward (Left j)
        (there Must (Gives ∷ lefts_from 0 d.arguments) (Left j) (there Gives (lefts_from 0 d.arguments) (Left j) at.1))
        (inner_last (leads (Holds (Pointee j) (block_end 1 d.body)) (Left j)) at.0 x) in
        let cause = cause_of all n around arguments value o.0 in
        let P : Option ℕ → Type 0 = λ v. Contains (leaves_to all n around arguments value cause v)
        (leads cause (Holds (place_at all h.0) (writes_at n around))) in
        let Q : Place → Type 0 = λ v. M (Holds v (writes_at n around)) in
        subst Q h.4 (o.2 (leads cause (Holds (place_at all h.0) (writes_at n around)))
        (subst P (sym h.2) (here (leads cause (Holds (place_at all h.0) (writes_at n around))) [])) o.1)

    module _ (s w v : State I V) (fine : Fine I V M k (reads_at n around) s)
        (inner : Fine I V Inner inner_marks (block_end 1 d.body) w) (l : run.Leaves I V (place_at all) d arguments s w v)
        (next : ℕ) (early : reads_at n around ≤ next) (late : writes_at n around ≤ next) where
      passed_same : (p : Place) (j : ℕ) → PassesAt j p → ((i : I) → v.memory i p ≡ w.memory i (Pointee j)) →
          ((i x : I) → v.memory i p ≡ v.memory x p) ⊎ M (Holds p next)
      passed_same p j h from = elim (inner.memory (Pointee j) refl) [
        | inr y ↦ inr (k.later p (writes_at n around) next late (left_out j p h y))
        | inl same ↦ inl (λ i x. from i ∙ same i x ∙ sym (from x))
      ]

      pub leaves_fine : Fine I V M k next v
      leaves_fine = record {
        values = λ h. elim (fine.values h) [
          | inl same ↦ inl (λ i x. l.values i h ∙ same i x ∙ sym (l.values x h))
          | inr y ↦ inr y
        ];
        memory = λ p own. elim (fine.memory p own) [
          | inr y ↦ inr (k.later p (reads_at n around) next early y)
          | inl same ↦ elim (l.memory p) [
            | inl passed ↦ passed_same p passed.0 passed.1 passed.2
            | inr kept ↦ inl (λ i x. kept.1 i ∙ same i x ∙ sym (kept.1 x))
          ]
        ];
        results = elim fine.results [
          | inl same ↦ inl (λ i x. l.results i ∙ same i x ∙ sym (l.results x))
          | inr y ↦ inr y
        ];
      }

      pub takes_fine : (g : Group I V) (r : State I V) → Alike I g ⊎ M (Apart n) → (o : Option ℕ) → value ≡ o → Takes I V g w o v r →
          Fine I V M k next r
      takes_fine g _ flow _ is run.nothing = leaves_fine
      takes_fine g r flow _ is (run.takes {e = e} a) =
          assigned I V M k next g e (λ i y. y ≡ w.results i) v r leaves_fine a (elim flow [
            | inr y ↦ inl (apart_out e is y)
            | inl alike ↦ elim inner.results [
              | inl same ↦ inr (alike, λ i x y z b h. b ∙ same i x ∙ sym h)
              | inr y ↦ inl (gives_out e is y)
            ]
          ])
