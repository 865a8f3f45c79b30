-- The violations in the sample modules are all of one kind, so a sample has exactly one report.
use Rattle.std.proofs.Common.{◌≡◌, ◌∙◌, sym, subst, ap, refl, ℕ, zero, suc, ◌+◌, ◌<◌, ◌≤◌, ◌^◌, Bool, true, false, ◌&&◌}
use Rattle.std.proofs.Common.{not, List, [], ◌∷◌, Option, Some, None, length, nat_eq, nat_lt, slice_get, cond, arith}
use Rattle.std.specs.List.{Contains, list_all, range_with_len}
use Rattle.std.specs.Option.{is_some, option_and_then, option_map}
use Rattle.std.proofs.lemmas.Bool.{ltb-true}
use Rattle.std.proofs.lemmas.List.FromFn.{get_or-range_with_len, length-range_with_len}
use Rattle.std.proofs.lemmas.Option.{option_and_then_some, same_Some, slice_get-get_or, slice_get_read, slice_get_within}
use Rattle.shader_ir.specs.declared.expression.Expression.TheVariants as form
use Rattle.shader_ir.specs.declared.proc.type_resolution.TypeResolution.{TypeResolution}
use Rattle.shader_analysis_spec.specs.Counts.{count_of, times}
use Rattle.shader_analysis_spec.specs.Derivable.{Answers, Derives, by_one, by_two, function_context, given, plain}
use Rattle.shader_analysis_spec.specs.Faults.{Cause, IsFault, ModuleFault, PassesArgument, Settings, Site, bad_element, count_full}
use Rattle.shader_analysis_spec.specs.Faults.{in_entry_point, in_expression, in_function, flow_violation, no_capability, no_image_passed}
use Rattle.shader_analysis_spec.specs.Faults.{no_image_resource, no_sampler_passed, no_sampler_resource, untyped}
use Rattle.shader_analysis_spec.specs.Pairs.{resource, sampled_operands}
use Rattle.shader_analysis_spec.specs.Program.{Call, Expression, Function, Label, Leaf, Module, Step, occurrences, statements}
use Rattle.shader_analysis_spec.proofs.TypeLemmas.{types_are_unique}
use Rattle.shader_info.specs.declared.error.AnalysisLocation.{AnalysisLocation}
use Rattle.shader_overloads.proofs.AgreementLemmas.{all_at}
use Rattle.sample_reports.specs.Laws.{ReportsAgree}
use Rattle.sample_reports.specs.Reports.{IsModuleReport, kind_of_cause}
use Rattle.sample_reports.specs.declared.report.FaultKind.{FaultKind}
use Rattle.sample_reports.specs.declared.report.FaultKind.TheVariants.{NonUniformControlFlow}
use Rattle.sample_reports.specs.declared.report.ModuleReport.{ModuleReport}
use Rattle.sample_reports.specs.declared.report.ModuleReport.TheVariants.{Accepted, Refused}
use Rattle.sample_reports.proofs.Unique.{reports_are_unique}
use Rattle.shader_resolve.specs.Outcome.{Given, Outcome, Refused as Refusing}
use Rattle.shader_resolve.specs.TypingRules.{One, Plain, TypingRule, Two, typing_rule}
use Rattle.shader_samples.specs.Samples.{sample_module}
use Rattle.shader_samples.specs.declared.sample.Sample.{Sample}
use Rattle.shader_samples.specs.declared.sample.Sample.TheVariants as s
use Rattle.shader_type_text.proofs.LookupLemmas.{mapped}
use Rattle.shader_analysis.specs.Processed.{site_of}
use Rattle.typer_answers.specs.Laws.{SamplesHaveOneReport}
use Rattle.typer_answers.specs.Samples.{flow_checked}

some_of : {X : Type 0} (o : Option X) → is_some o ≡ true → (x : X) × (o ≡ Some x)
some_of None h = cc
some_of (Some x) h = (x, refl)

both_of : (a b : Bool) → (a && b) ≡ true → (a ≡ true) × (b ≡ true)
both_of true b h = (refl, h)
both_of false b h = cc

add_nothing : (e : ℕ) → 0 + e ≡ e
add_nothing e = omega arith

all_contained : {X : Type 0} (p : X → Bool) (xs : List X) (x : X) → list_all p xs ≡ true → Contains xs x → p x ≡ true
all_contained p xs x all h = all_at p xs h.0 x all (slice_get_read xs (length xs) h.0 x refl h.1 (sym h.2))

-- ---- types that compute

abbrev given_of : Outcome → Option TypeResolution
given_of (Given resolution) = Some resolution
given_of (Refusing refusal) = None

abbrev outcome_by : (ℕ → Option TypeResolution) → TypingRule → Option Outcome
outcome_by reported (Plain outcome) = Some outcome
outcome_by reported (One operand answer) = option_map answer (reported operand)
outcome_by reported (Two left right answer) = option_and_then (λ first. option_map (answer first) (reported right)) (reported left)

given_is : (outcome : Outcome) (r : TypeResolution) → given_of outcome ≡ Some r → outcome ≡ Given r
given_is (Given resolution) r h = ap Given (same_Some resolution r h)
given_is (Refusing refusal) r h = cc

module _ (m : Module) (f : Function) where
  -- the type of an expression whose operands nest to this depth
  abbrev type_at : ℕ → ℕ → Option TypeResolution
  type_at zero e = None
  type_at (suc n) e = option_and_then given_of (option_and_then (λ x. outcome_by (type_at n) (typing_rule (function_context m f) x))
      (slice_get f.expressions e))

  abbrev AreDerived : (ℕ → Option TypeResolution) → Type 0
  AreDerived reported = (e : ℕ) (r : TypeResolution) → reported e ≡ Some r → Derives (function_context m f) f.expressions e r

  answers : (reported : ℕ → Option TypeResolution) (e : ℕ) (x : Expression) (r : TypingRule) (outcome : Outcome) → AreDerived reported →
      slice_get f.expressions e ≡ Some x →
      typing_rule (function_context m f) x ≡ r → outcome_by reported r ≡ Some outcome →
      Answers (function_context m f) f.expressions e outcome
  answers reported e x (Plain o) outcome derived is_there is found =
      subst (Answers (function_context m f) f.expressions e) (same_Some o outcome found) (plain is_there is)
  answers reported e x (One operand answer) outcome derived is_there is found =
      let t = mapped answer (reported operand) outcome found in
      subst (Answers (function_context m f) f.expressions e) t.2 (by_one is_there is (derived operand t.0 t.1))
  answers reported e x (Two left right answer) outcome derived is_there is found =
      option_and_then_some {P =
      Answers (function_context m f) f.expressions e outcome} (λ first. option_map (answer first) (reported right))
      (reported left) outcome found (λ first first_is inner.
      let second = mapped (answer first) (reported right) outcome inner in
      subst (Answers (function_context m f) f.expressions e) second.2
      (by_two is_there is (derived left first first_is) (derived right second.0 second.1)))

  derived_at : (n : ℕ) → AreDerived (type_at n)
  derived_at zero e r h = cc
  derived_at (suc n) e r h =
      option_and_then_some {P = Derives (function_context m f) f.expressions e r} given_of
      (option_and_then (λ x. outcome_by (type_at n) (typing_rule (function_context m f) x)) (slice_get f.expressions e)) r h
      (λ outcome found gives.
      option_and_then_some {P = Derives (function_context m f) f.expressions e r}
      (λ x. outcome_by (type_at n) (typing_rule (function_context m f) x)) (slice_get f.expressions e) outcome found
      (λ x is_there inner.
      given (answers (type_at n) e x (typing_rule (function_context m f) x) outcome (derived_at n) is_there refl inner)
      (given_is outcome r gives)))

  -- ---- tests of a function

  abbrev is_typed : ℕ → Bool
  is_typed e = is_some (type_at 4 e)

  abbrev is_access : Expression → Bool
  is_access (form.Access base index) = true
  is_access _ = false

  abbrev has_resource : ℕ → Bool
  has_resource e = is_some (resource f e)

  abbrev have_resources : Option (ℕ × ℕ) → Bool
  have_resources None = true
  have_resources (Some operands) = has_resource operands.0 && has_resource operands.1

  abbrev passes_resources : Step → Bool
  passes_resources (Leaf (Call callee arguments result)) = list_all has_resource arguments
  passes_resources _ = true

  abbrev all_typed : Bool
  all_typed = list_all is_typed (range_with_len 0 (length f.expressions))

  abbrev none_indexes : Bool
  none_indexes = list_all (λ x. not (is_access x)) f.expressions

  abbrev all_sampled : Bool
  all_sampled = list_all (λ x. have_resources (sampled_operands x)) f.expressions

  abbrev all_passed : Bool
  all_passed = list_all passes_resources (statements f.body)

  abbrev are_few : Bool
  are_few = nat_lt (length (occurrences f)) 100

  abbrev pub is_simple : Bool
  is_simple = all_typed && (none_indexes && (all_sampled && (all_passed && are_few)))

  -- ---- consequences

  typed : all_typed ≡ true → (e : ℕ) (x : Expression) → slice_get f.expressions e ≡ Some x →
      (r : TypeResolution) × Derives (function_context m f) f.expressions e r
  typed all e x is_there =
      let count = length f.expressions in
      let within : e < length (range_with_len 0 count) =
      subst (λ n. e < n) (sym (length-range_with_len 0 count)) (slice_get_within f.expressions e x is_there) in
      let at : slice_get (range_with_len 0 count) e ≡ Some e =
      slice_get-get_or (range_with_len 0 count) e 0 within ∙ ap Some
      (get_or-range_with_len 0 count e 0 (slice_get_within f.expressions e x is_there) ∙ add_nothing e) in
      let r = some_of (type_at 4 e) (all_at is_typed (range_with_len 0 count) e e all at) in
      (r.0, derived_at 4 e r.0 r.1)

  indexes_nothing : none_indexes ≡ true → (e base index : ℕ) → slice_get f.expressions e ≡ Some (form.Access base index) → ⊥
  indexes_nothing none e base index is_there =
      let h : not (is_access (form.Access base index)) ≡ true =
      all_at (λ x. not (is_access x)) f.expressions e (form.Access base index) none is_there in cc

  resource_here : (e : ℕ) → has_resource e ≡ true → resource f e ≡ None → ⊥
  resource_here e h none = let p = some_of (resource f e) h in let is : Some p.0 ≡ None = sym p.1 ∙ none in cc

  samples_resources : all_sampled ≡ true → (e image sampler : ℕ) →
      option_and_then sampled_operands (slice_get f.expressions e) ≡ Some (image, sampler) →
      (has_resource image ≡ true) × (has_resource sampler ≡ true)
  samples_resources all e image sampler h =
      option_and_then_some {P = (has_resource image ≡ true) × (has_resource sampler ≡ true)} sampled_operands (slice_get f.expressions e) (
        image,
        sampler,
      ) h (λ x is_there is.
      both_of (has_resource image) (has_resource sampler)
      (subst (λ o. have_resources o ≡ true) is (all_at (λ x. have_resources (sampled_operands x)) f.expressions e x all is_there)))

  passes_only_resources : all_passed ≡ true → (c i e : ℕ) → PassesArgument f c i e → has_resource e ≡ true
  passes_only_resources all c i e passes =
      let each : list_all has_resource passes.arguments ≡ true =
      all_contained passes_resources (statements f.body) (Leaf (Call c passes.arguments passes.result)) all passes.holds in
      all_at has_resource passes.arguments i e each passes.passed_argument

one_le : (b : Bool) → cond b 1 0 ≤ 1
one_le true = omega arith
one_le false = omega arith

times_le : (e : ℕ) (xs : List (ℕ × Label)) → times e xs ≤ length xs
times_le e [] = omega arith
times_le e (x ∷ xs) = omega (arith, one_le (nat_eq x.0 e), times_le e xs)

few_named : (f : Function) (e : ℕ) → nat_lt (length (occurrences f)) 100 ≡ true → 2 ^ 64 ≤ count_of f e → ⊥
few_named f e few full = omega (arith, times_le e (occurrences f), ltb-true (length (occurrences f)) 100 few)

fault_kind : (m : Module) (f : Function) (settings : Settings) (cause : Cause) → all_typed m f ≡ true → none_indexes m f ≡ true →
    all_sampled m f ≡ true →
    all_passed m f ≡ true → are_few m f ≡ true → IsFault m f settings cause → kind_of_cause cause ≡ NonUniformControlFlow
fault_kind m f settings _ types indexes sample pass few (untyped {e = e} {refusal = refusal} refused) =
    let t = typed m f types e refused.expression refused.is_there in
    absurd ((types_are_unique (function_context m f) f.expressions e t.0 t.1).1 refusal refused)
fault_kind m f settings _ types indexes sample pass few (no_capability {e = e} {index = index} at capability origin refused) =
    absurd (indexes_nothing m f indexes e at.base index at.is_there)
fault_kind m f settings _ types indexes sample pass few (bad_element {e = e} {index = index} at other) =
    absurd (indexes_nothing m f indexes e at.base index at.is_there)
fault_kind m f settings _ types indexes sample pass few (no_image_resource {e = e} {image = i} {sampler = k} is none) =
    absurd (resource_here m f i (samples_resources m f sample e i k is).0 none)
fault_kind m f settings _ types indexes sample pass few (no_sampler_resource {e = e} {image = i} {sampler = k} is none) =
    absurd (resource_here m f k (samples_resources m f sample e i k is).1 none)
fault_kind m f settings _ types indexes sample pass few (no_image_passed {e = e} {c = c} {i = i} passes none pair) =
    absurd (resource_here m f e (passes_only_resources m f pass c i e passes) none)
fault_kind m f settings _ types indexes sample pass few (no_sampler_passed {e = e} {c = c} {i = i} passes none pair) =
    absurd (resource_here m f e (passes_only_resources m f pass c i e passes) none)
fault_kind m f settings _ types indexes sample pass few (flow_violation checks governs at) = refl
fault_kind m f settings _ types indexes sample pass few (count_full {e = e} full) = absurd (few_named f e few full)

-- the violations in a simple function are in its control flow
flow_alone : (m : Module) (f : Function) (settings : Settings) (cause : Cause) → is_simple m f ≡ true → IsFault m f settings cause →
    kind_of_cause cause ≡ NonUniformControlFlow
flow_alone m f settings cause simple fault =
    let a = both_of (all_typed m f) (none_indexes m f && (all_sampled m f && (all_passed m f && are_few m f))) simple in
    let b = both_of (none_indexes m f) (all_sampled m f && (all_passed m f && are_few m f)) a.1 in
    let c = both_of (all_sampled m f) (all_passed m f && are_few m f) b.1 in
    let d = both_of (all_passed m f) (are_few m f) c.1 in
    fault_kind m f settings cause a.0 b.0 c.0 d.0 d.1 fault

-- a module of simple functions only
record AreSimple (m : Module) : Type 0 where
  expressions : m.global_expressions ≡ []
  entry_points : m.entry_points ≡ []
  functions : list_all (is_simple m) m.functions ≡ true

nothing_at : {X : Type 0} (xs : List X) (i : ℕ) (x : X) → xs ≡ [] → slice_get xs i ≡ Some x → ⊥
nothing_at [] i x e at = cc
nothing_at (y ∷ ys) i x e at = cc

flow_in : (m : Module) (settings : Settings) (site : Site) (cause : Cause) → AreSimple m → ModuleFault m settings site cause →
    kind_of_cause cause ≡ NonUniformControlFlow
flow_in m settings _ _ simple (in_expression {e = e} refused) =
    absurd (nothing_at m.global_expressions e refused.expression simple.expressions refused.is_there)
flow_in m settings _ cause simple (in_function {i = i} {f = f} at fault) =
    flow_alone m f settings cause (all_at (is_simple m) m.functions i f simple.functions at) fault
flow_in m settings _ _ simple (in_entry_point {i = i} {entry = entry} at fault) =
    absurd (nothing_at m.entry_points i entry simple.entry_points at)

samples_are_simple : (sample : Sample) → AreSimple (sample_module sample)
samples_are_simple s.Named = record { expressions = refl; entry_points = refl; functions = refl }
samples_are_simple s.Stored = record { expressions = refl; entry_points = refl; functions = refl }
samples_are_simple s.Sampling = record { expressions = refl; entry_points = refl; functions = refl }
samples_are_simple s.Exit = record { expressions = refl; entry_points = refl; functions = refl }
samples_are_simple s.NoFall = record { expressions = refl; entry_points = refl; functions = refl }
samples_are_simple s.ExitOff = record { expressions = refl; entry_points = refl; functions = refl }
samples_are_simple s.Counts = record { expressions = refl; entry_points = refl; functions = refl }
samples_are_simple s.DerivativeUniform = record { expressions = refl; entry_points = refl; functions = refl }
samples_are_simple s.Derivative = record { expressions = refl; entry_points = refl; functions = refl }
samples_are_simple s.DerivativeOff = record { expressions = refl; entry_points = refl; functions = refl }

-- the report on such a module is unique
one_report : (m : Module) (a b : ModuleReport) → AreSimple m → IsModuleReport m flow_checked a → IsModuleReport m flow_checked b →
    ReportsAgree a b → a ≡ b
one_report m (Accepted xs) (Accepted ys) simple x y alike = ap Accepted alike
one_report m (Accepted xs) (Refused at kind) simple x y alike = absurd alike
one_report m (Refused at kind) (Accepted ys) simple x y alike = absurd alike
one_report m (Refused at kind) (Refused other reported) simple x y alike =
    let first : kind ≡ NonUniformControlFlow = x.kind ∙ flow_in m flow_checked (site_of at) x.cause simple x.first.is_there in
    let second : reported ≡ NonUniformControlFlow = y.kind ∙ flow_in m flow_checked (site_of other) y.cause simple y.first.is_there in
    ap (λ (p : AnalysisLocation). Refused p kind) alike ∙ ap (λ (k : FaultKind). Refused other k) (first ∙ sym second)

pub samples_have_one_report : SamplesHaveOneReport
samples_have_one_report sample a b x y =
    one_report (sample_module sample) a b (samples_are_simple sample) x y (reports_are_unique (sample_module sample) flow_checked a b x y)
