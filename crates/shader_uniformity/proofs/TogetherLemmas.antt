-- The laws over every run.
use Rattle.std.proofs.Common.{◌≡◌, refl, sym, ◌∙◌, subst, ◌⊎◌, inl, inr, ℕ, Bool, true, false, if◌then◌else◌}
use Rattle.std.proofs.Common.{List, [], ◌∷◌, ◌++◌, None, slice_get, length, arith}
use Rattle.std.specs.List.{AllByRecursion, Contains, enumerate_from, flat_map}
use Rattle.shader_ir.specs.declared.expression.Expression.TheVariants as form
use Rattle.shader_uniformity.specs.Apart.{block_rules}
use Rattle.shader_uniformity.specs.Differs.{argument_is_uniform, pointees_from, shared_rule, source_rules}
use Rattle.shader_uniformity.specs.Fault.{function_rules, left_from, severity}
use Rattle.shader_uniformity.specs.Lockstep.{On, Left, State, Meaning, Group, Trace}
use Rattle.shader_uniformity.specs.Marks.{leads, Marked, itself, by_rule, later}
use Rattle.shader_uniformity.specs.Places.{places}
use Rattle.shader_uniformity.specs.Positions.{block_end}
use Rattle.shader_uniformity.specs.Together.{IsTogether, IsGiven, IsPassed, IsPointed, Begin, BeginCall, EntryPointsStayTogether}
use Rattle.shader_uniformity.specs.Together.{FunctionsStayTogether}
use Rattle.shader_uniformity.specs.Words.{Function, Module}
use Rattle.shader_uniformity.specs.declared.facts.Fact.{Fact}
use Rattle.shader_uniformity.specs.declared.facts.Fact.TheVariants.{Always, Flow, Argument, Behind, Apart, Differs, Holds, Must}
use Rattle.shader_uniformity.specs.declared.facts.Place.{Place}
use Rattle.shader_uniformity.specs.declared.facts.Place.TheVariants.{Pointee}
use Rattle.shader_uniformity.specs.declared.facts.Rule.{Rule}
use Rattle.shader_uniformity.proofs.CallLemmas.{enumerated, in_flat, points}
use Rattle.shader_uniformity.proofs.EmitLemmas.{IsKept}
use Rattle.shader_uniformity.proofs.FineLemmas.{here, there, Cl, head, tail, left, right, AreMarks, Fine}
use Rattle.shader_uniformity.proofs.RunLemmas.{block}
use Rattle.shader_uniformity.proofs.StatusLemmas.{Alike}

-- the rules of a function, part by part
module _ (M : Fact → Type 0) (m : Module) (callees : List (List Rule)) (entry : Bool) (f : Function)
    (c : Cl M (function_rules m callees (severity m f) entry f)) where
  abbrev firsts : List Rule
  firsts = shared_rule ∷ pointees_from 0 f.arguments

  abbrev sources : List Rule
  sources = flat_map (source_rules entry f.arguments) (enumerate_from 0 f.expressions)

  abbrev blocks : List Rule
  blocks = block_rules f.expressions (places m f.expressions) callees (severity m f) 1 1 None f.body

  abbrev lasts : List Rule
  lasts = left_from (block_end 1 f.body) 0 f.arguments

  most : Cl M ((firsts ++ sources) ++ (leads Flow (Apart 1) ∷ blocks))
  most = left M ((firsts ++ sources) ++ (leads Flow (Apart 1) ∷ blocks)) lasts c

  of_block : Cl M blocks
  of_block = tail M (leads Flow (Apart 1)) blocks (right M (firsts ++ sources) (leads Flow (Apart 1) ∷ blocks) most)

  of_flow : M Flow → M (Apart 1)
  of_flow = head M (leads Flow (Apart 1)) blocks (right M (firsts ++ sources) (leads Flow (Apart 1) ∷ blocks) most)

  of_first : Cl M firsts
  of_first = left M firsts sources (left M (firsts ++ sources) (leads Flow (Apart 1) ∷ blocks) most)

  of_source : Cl M sources
  of_source = right M firsts sources (left M (firsts ++ sources) (leads Flow (Apart 1) ∷ blocks) most)

together_all : (I V : Type 0) (M : Fact → Type 0) (k : AreMarks M) (t : Meaning I V) → (M Must → ⊥) → (a : Trace I V) →
    AllByRecursion (IsKept I V M k t) a → AllByRecursion (IsTogether I V) a
together_all I V M k t never [] all = tt
together_all I V M k t never (g ∷ a) all =
    (elim all.0 [ inl together ↦ together | inr y ↦ absurd (never y) ], together_all I V M k t never a all.1)

-- an entry point
module _ (I V : Type 0) (m : Module) (callees : List (List Rule)) (f : Function) where
  abbrev entry_rules : List Rule
  entry_rules = function_rules m callees (severity m f) true f

  abbrev EntryMark : Fact → Type 0
  EntryMark x = Marked entry_rules Always x

  entry_closed : Cl EntryMark entry_rules
  entry_closed r within y = by_rule within y

  entry_marks : AreMarks EntryMark
  entry_marks = record {
    always = itself;
    shared = λ t. later t (omega arith) (head EntryMark shared_rule (pointees_from 0 f.arguments)
        (of_first EntryMark m callees true f entry_closed) itself);
    later = λ p s t le y. later t le y;
  }

  varying : (h index : ℕ) (b : Bool) → argument_is_uniform (slice_get f.arguments index) ≡ b → b ≡ false →
      Contains (if argument_is_uniform (slice_get f.arguments index) then [] else leads Always (Differs h) ∷ []) (leads Always (Differs h))
  varying h index b is w =
      let P : Bool → Type 0 = λ v. Contains (if v then [] else leads Always (Differs h) ∷ []) (leads Always (Differs h)) in
      subst P (sym (is ∙ w)) (here (leads Always (Differs h)) [])

  given_differs : (h : ℕ) → IsGiven I V f h → EntryMark (Differs h)
  given_differs h y = of_source EntryMark m callees true f entry_closed (leads Always (Differs h))
      (in_flat (source_rules true f.arguments) (enumerate_from 0 f.expressions) (h, form.FunctionArgument y.index)
      (leads Always (Differs h))
      (enumerated f.expressions 0 h h (form.FunctionArgument y.index) (omega arith) y.stands)
      (varying h y.index false y.varies refl)) itself

  entry_fine : (s : State I V) → Begin I V f s → Fine I V EntryMark entry_marks 1 s
  entry_fine s b = record {
    values = λ h. elim (b.values h) [ inl y ↦ inr (given_differs h y) | inr same ↦ inl same ];
    memory = λ p own. inl (b.memory p);
    results = inl b.results;
  }

pub entry_points : (I V : Type 0) → EntryPointsStayTogether I V
entry_points I V first t m callees ak f accepted s u h a b runs =
    together_all I V (EntryMark I V m callees f) (entry_marks I V m callees f) t accepted a
    (block I V first t m (length callees) f f.body s (λ i. On) u h a runs (EntryMark I V m callees f) (entry_marks I V m callees f) callees
    ak refl
    1 1 None (of_block (EntryMark I V m callees f) m callees true f (entry_closed I V m callees f)) (entry_fine I V m callees f s b)
    (inl (λ i x. refl)) (λ j. inl (λ i x e. let wrong : On ≡ Left j = e in absurd (cc)))).needs

-- a function
module _ (I V : Type 0) (m : Module) (callees : List (List Rule)) (f : Function) (differing : List Fact) (all :
    Contains differing Always) where
  abbrev call_rules : List Rule
  call_rules = function_rules m callees (severity m f) false f

  abbrev CallMark : Fact → Type 0
  CallMark x = (b : Fact) × Contains differing b × Marked call_rules b x

  call_closed : Cl CallMark call_rules
  call_closed r within y = (y.0, y.1, by_rule within y.2)

  call_marks : AreMarks CallMark
  call_marks = record {
    always = (Always, all, itself);
    shared = λ t. let y = head CallMark shared_rule (pointees_from 0 f.arguments) (of_first CallMark m callees false f call_closed)
        (Always, all, itself) in (y.0, y.1, later t (omega arith) y.2);
    later = λ p s t le y. (y.0, y.1, later t le y.2);
  }

  passed_differs : (h : ℕ) → IsPassed I V differing f h → CallMark (Differs h)
  passed_differs h y = of_source CallMark m callees false f call_closed (leads (Argument y.index) (Differs h))
      (in_flat (source_rules false f.arguments) (enumerate_from 0 f.expressions) (h, form.FunctionArgument y.index)
      (leads (Argument y.index) (Differs h)) (enumerated f.expressions 0 h h (form.FunctionArgument y.index) (omega arith) y.stands)
      (here (leads (Argument y.index) (Differs h)) [])) (Argument y.index, y.differs, itself)

  pointed_holds : (p : Place) → IsPointed I V differing f p → CallMark (Holds p 1)
  pointed_holds p y =
      let at = of_first CallMark m callees false f call_closed (leads (Behind y.index) (Holds (Pointee y.index) 0))
      (there shared_rule (pointees_from 0 f.arguments) (leads (Behind y.index) (Holds (Pointee y.index) 0))
      (points y.argument f.arguments 0 y.index y.index (omega arith) y.declared)) (Behind y.index, y.differs, itself) in
      let P : Place → Type 0 = λ v. CallMark (Holds v 1) in
      subst P (sym y.is) (at.0, at.1, later 1 (omega arith) at.2)

  call_fine : (g : Group I V) (s : State I V) → BeginCall I V differing f g s → Fine I V CallMark call_marks 1 s
  call_fine g s b = record {
    values = λ h. elim (b.values h) [ inl y ↦ inr (passed_differs h y) | inr same ↦ inl same ];
    memory = λ p own. elim (b.memory p) [ inl y ↦ inr (pointed_holds p y) | inr same ↦ inl same ];
    results = inl b.results;
  }

  call_flow : (g : Group I V) (s : State I V) → BeginCall I V differing f g s → Alike I g ⊎ CallMark (Apart 1)
  call_flow g s b = elim b.flow [
    | inl same ↦ inl same
    | inr y ↦ inr (of_flow CallMark m callees false f call_closed (Flow, y, itself))
  ]

pub functions : (I V : Type 0) → FunctionsStayTogether I V
functions I V first t m callees ak f differing never g s u h a b runs =
    together_all I V (CallMark I V m callees f differing b.always) (call_marks I V m callees f differing b.always) t
    (λ y. never y.0 y.1 y.2) a
    (block I V first t m (length callees) f f.body s g u h a runs (CallMark I V m callees f differing b.always)
    (call_marks I V m callees f differing b.always) callees ak refl 1 1 None
    (of_block (CallMark I V m callees f differing b.always) m callees false f (call_closed I V m callees f differing b.always))
    (call_fine I V m callees f differing b.always g s b) (call_flow I V m callees f differing b.always g s b)
    (λ j. inl (λ i x e. absurd (b.unleft i j e)))).needs
