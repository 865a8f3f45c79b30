-- Checks by the derivable types, and lengths of accessed values.
use Rattle.std.proofs.Common.{◌≡◌, refl, sym, subst, ap, ◌∙◌, ℕ, ◌<◌, ◌⊎◌, inl, inr, List, Option, Some}
use Rattle.std.proofs.Common.{None, Err, IsOk, IfSome, length, slice_get, get_or, is_some, arith}
use Rattle.std.specs.Option.{option_and_then}
use Rattle.std.proofs.lemmas.Option.{get_or_from_slice_get, same_Some, slice_get-get_or, slice_get-map, slice_get_within}
use Rattle.shader_analysis_spec.proofs.TypeLemmas.{types_are_unique}
use Rattle.shader_analysis_spec.specs.Derivable.{Answers, Derives, by_one, by_two, function_context, given, plain}
use Rattle.shader_analysis_spec.specs.Program.{Call, Expression, Function, Leaf, Module, IsExpressionAt, Step}
use Rattle.shader_info.specs.declared.info.FunctionInfo.{FunctionInfo}
use Rattle.shader_ir.specs.Key.{IsNoStruct, found_inner, inner_of}
use Rattle.shader_ir.specs.declared.expression.Expression.TheVariants as form
use Rattle.shader_ir.specs.declared.proc.type_resolution.TypeResolution.{TypeResolution}
use Rattle.shader_ir.specs.declared.proc.type_resolution.TypeResolution.TheVariants.{Handle, Value}
use Rattle.shader_ir.specs.declared.types.«Type».{«Type»}
use Rattle.shader_ir.specs.declared.types.ArraySize.{ArraySize}
use Rattle.shader_ir.specs.declared.types.ArraySize.TheVariants as array_size
use Rattle.shader_ir.specs.declared.types.TypeInner.{TypeInner}
use Rattle.shader_ir.specs.declared.types.TypeInner.TheVariants as type
use Rattle.shader_bounds.proofs.KnownLemmas.{known_sizes_give_lengths}
use Rattle.shader_bounds.specs.Lengths.{AreSizesKnown, HasKnownSize, found_length, indexable_length}
use Rattle.shader_bounds.specs.Lengths.{inner_length, length_of_size, own_length}
use Rattle.shader_bounds.specs.declared.error.IndexableLengthError.TheVariants.{TypeNotIndexable}
use Rattle.shader_resolve.specs.Context.{Context}
use Rattle.shader_resolve.specs.Outcome.{Given, InvalidAccess, InvalidSubAccess, Outcome, Refusal, at_inner, at_shape}
use Rattle.shader_resolve.specs.Component.{lifted, component, component_outcome, component_pointer, component_value, pointed_outcome}
use Rattle.shader_resolve.specs.declared.resolve.access.Component.{Component}
use Rattle.shader_resolve.specs.TypingRules.{One, Plain, TypingRule, Two, typing_rule}
use Rattle.shader_bounds.proofs.FreeLemmas.{HoldsNoArray, IsNoArray, derived-free}
use Rattle.shader_bounds.specs.Checked.{AccessNeedsCheck, ChainNeedsCheck, Checks, IsCheckedIndex, NeedsCheck}
use Rattle.shader_bounds.specs.Checked.{ReadsZero, StepsIntoNoStruct, accessed, before, itself}
use Rattle.shader_bounds.specs.Laws.{AccessesHaveLengths, ChecksAreOfDerived, RecordsDerived}
use Rattle.shader_bounds.specs.Locals.{CallPasses, IsOutOfBoundsType, StepPasses}
use Rattle.shader_bounds.specs.Typed.{Records, type_at}
use Rattle.shader_bounds.specs.declared.guarded.GuardedIndex.{GuardedIndex}
use Rattle.shader_bounds.specs.declared.guarded.GuardedIndex.TheVariants.{Known, Expression as Computed}
use Rattle.shader_bounds.specs.declared.policies.BoundsCheckPolicies.{BoundsCheckPolicies}
use Rattle.shader_passes.specs.InfoOf.{info_of}

-- ---- other types of expressions

-- checks by some types are checks by others if the former types are among the latter
module _ (m : Module) (f : Function) (P Q : ℕ → TypeResolution → Type 0) (has : (e : ℕ) (r : TypeResolution) → P e r → Q e r) where
  check_to : (base : ℕ) (index : GuardedIndex) → NeedsCheck m f P base index → NeedsCheck m f Q base index
  check_to base index check = record {
    resolution = check.resolution;
    typed = has base check.resolution check.typed;
    unknown =
        check.unknown;
  }

  zero_to : (policies : BoundsCheckPolicies) (base : ℕ) → ReadsZero m P policies base → ReadsZero m Q policies base
  zero_to policies base zero = record { resolution = zero.resolution; typed = has base zero.resolution zero.typed; chosen = zero.chosen }

  step_to : (base : ℕ) → StepsIntoNoStruct m P base → StepsIntoNoStruct m Q base
  step_to base step = record { resolution = step.resolution; typed = has base step.resolution step.typed; no_member = step.no_member }

  checks_to : (policies : BoundsCheckPolicies) (x : Expression) (e : ℕ) → Checks m f P policies x e → Checks m f Q policies x e
  checks_to policies (form.Access base index) e checks = (checks.0, zero_to policies base checks.1, check_to base (Computed index) checks.2)
  checks_to policies (form.ImageLoad image coordinate array_index sample level) e checks = checks
  checks_to policies x e checks = absurd checks

  pub index_to : (policies : BoundsCheckPolicies) (e : ℕ) → IsCheckedIndex m f P policies e → IsCheckedIndex m f Q policies e
  index_to policies e checked = (checked.0, checked.1, checks_to policies checked.0 e checked.2)

  access_to : (x : Expression) → AccessNeedsCheck m f P x → AccessNeedsCheck m f Q x
  access_to (form.Access base index) check = check_to base (Computed index) check
  access_to (form.AccessIndex base index) check = (step_to base check.0, check_to base (Known index) check.1)
  access_to x check = absurd check

  chain_to : (e : ℕ) → ChainNeedsCheck m f P e → ChainNeedsCheck m f Q e
  chain_to e (itself {x = x} is_there check) = itself is_there (access_to x check)
  chain_to e (before {base = base} is_there is chain) = before is_there is (chain_to base chain)

  call_to : (ty callee : ℕ) (arguments : List ℕ) → CallPasses m f P ty callee arguments → CallPasses m f Q ty callee arguments
  call_to ty callee arguments call = record {
    called = call.called;
    position = call.position;
    parameter = call.parameter;
    argument = call.argument;
    is_there = call.is_there;
    taken = call.taken;
    given = call.given;
    passes = record { points = call.passes.points; chain = chain_to call.argument call.passes.chain };
  }

  passes_to : (ty : ℕ) (step : Step) → StepPasses m f P ty step → StepPasses m f Q ty step
  passes_to ty (Leaf (Call callee arguments result)) passes = call_to ty callee arguments passes
  passes_to ty step passes = absurd passes

  pub type_to : (policies : BoundsCheckPolicies) (ty : ℕ) → IsOutOfBoundsType m f P policies ty → IsOutOfBoundsType m f Q policies ty
  type_to policies ty needed = let local = needed.1 in (needed.0, (local.0, local.1, passes_to ty local.0 local.2))

-- an expression that has a type is in range
occurs_of : (context : Context) (expressions : List Expression) (e : ℕ) (outcome : Outcome) → Answers context expressions e outcome →
    e < length expressions
occurs_of context expressions e outcome (plain {x = x} is r) = slice_get_within expressions e x is
occurs_of context expressions e _ (by_one {x = x} is r reported) = slice_get_within expressions e x is
occurs_of context expressions e _ (by_two {x = x} is r first second) = slice_get_within expressions e x is

module _ (m : Module) (f : Function) (info : FunctionInfo) (derived : RecordsDerived m f info) where
  abbrev context : Context
  context = function_context m f

  abbrev recorded_types : List TypeResolution
  recorded_types = (info_of info).types

  recorded : (e : ℕ) → slice_get recorded_types e ≡ type_at info e
  recorded e = slice_get-map _ info.expressions e

  pub to_derived : (e : ℕ) (r : TypeResolution) → Records info e r → Derives context f.expressions e r
  to_derived e r is = derived.derived e r (recorded e ∙ is)

  pub of_derived : (e : ℕ) (r : TypeResolution) → Derives context f.expressions e r → Records info e r
  of_derived e r derives = at derives
    where
      at : Derives context f.expressions e r → Records info e r
      at (given {outcome = o} answers is) =
          let within : e < length f.expressions = occurs_of context f.expressions e o answers in
          let complete : length recorded_types ≡ length f.expressions = derived.complete in
          let there : e < length recorded_types = omega (arith, within, complete) in
          let found : slice_get recorded_types e ≡ Some (get_or recorded_types e r) = slice_get-get_or recorded_types e r there in
          let same : r ≡ get_or recorded_types e r = (types_are_unique context f.expressions e r derives).0 (get_or recorded_types e r)
          (derived.derived e (get_or recorded_types e r) found) in
          sym (recorded e) ∙ (found ∙ ap (λ (t : TypeResolution). Some t) (sym same))

pub checks_are_of_derived : ChecksAreOfDerived
checks_are_of_derived m f info policies derived =
    let P : ℕ → TypeResolution → Type 0 = Records info in
    let Q : ℕ → TypeResolution → Type 0 = Derives (function_context m f) f.expressions in
    let to : (e : ℕ) (r : TypeResolution) → P e r → Q e r = to_derived m f info derived in
    let from : (e : ℕ) (r : TypeResolution) → Q e r → P e r = of_derived m f info derived in (
      λ e. (index_to m f P Q to policies e, index_to m f Q P from policies e),
      λ ty. (type_to m f P Q to policies ty, type_to m f Q P from policies ty),
    )

-- ---- lengths

abbrev queried : TypingRule → ℕ
queried (Plain outcome) = 0
queried (One operand answer) = operand
queried (Two left right answer) = left

abbrev answered : TypingRule → TypeResolution → Outcome
answered (Plain outcome) reported = outcome
answered (One operand answer) reported = answer reported
answered (Two left right answer) reported = answer reported reported

module _ (m : Module) (f : Function) (info : FunctionInfo) (derived : RecordsDerived m f info) where
  -- an expression that queries one operand has a type given by that operand's
  given_by : (e operand : ℕ) (x : Expression) (answer : TypeResolution → Outcome) (r : TypeResolution) → IsExpressionAt f e x →
      typing_rule (context m f info derived) x ≡ One operand answer →
      Records info operand r → (t : TypeResolution) × (answer r ≡ Given t)
  given_by e operand x answer r is_there queries is =
      let within : e < length f.expressions = slice_get_within f.expressions e x is_there in
      let complete : length (recorded_types m f info derived) ≡ length f.expressions = derived.complete in
      let there : e < length (recorded_types m f info derived) = omega (arith, within, complete) in
      let found : slice_get (recorded_types m f info derived) e ≡ Some (get_or (recorded_types m f info derived) e r) =
      slice_get-get_or (recorded_types m f info derived) e r there in
      at (get_or (recorded_types m f info derived) e r) (derived.derived e (get_or (recorded_types m f info derived) e r) found)
    where
      same : (y : Expression) (s : TypingRule) → slice_get f.expressions e ≡ Some y → typing_rule (context m f info derived) y ≡ s →
          One operand answer ≡ s
      same y s is_y queries_y = sym queries
          ∙ (ap (typing_rule (context m f info derived)) (same_Some x y (sym is_there ∙ is_y)) ∙ queries_y)

      by : (o : Outcome) → Answers (context m f info derived) f.expressions e o → answer r ≡ o
      by o (plain {x = y} is_y queries_y) = let rows = same y (Plain o) is_y queries_y in absurd (cc)
      by _ (by_one {operand = p} {x = y} {answer = g} {reported = u} is_y queries_y reported) =
          let rows = same y (One p g) is_y queries_y in
          let operands : p ≡ operand = sym (ap queried rows) in
          let reported_there : Derives (context m f info derived) f.expressions operand u =
          subst (λ v. Derives (context m f info derived) f.expressions v u) operands reported in
          let types : r ≡ u = (types_are_unique (context m f info derived) f.expressions operand r
          (to_derived m f info derived operand r is)).0 u reported_there in
          ap (λ typing_rule. answered typing_rule r) rows ∙ ap g types
      by _ (by_two {left = l} {right = k} {x = y} {answer = g} is_y queries_y first second) = let rows =
          same y (Two l k g) is_y queries_y in absurd (cc)

      at : (t : TypeResolution) → Derives (context m f info derived) f.expressions e t → (t : TypeResolution) × (answer r ≡ Given t)
      at t (given {outcome = o} answers given_is) = (t, by o answers ∙ given_is)

sized : (size : ArraySize) → length_of_size size ≡ Err TypeNotIndexable → ⊥
sized (array_size.Constant count) e = absurd (cc)
sized (array_size.Pending override) e = absurd (cc)
sized array_size.Dynamic e = absurd (cc)

-- a type with a component has a length, except for members of structs
component_has : (base : ℕ) (refusal : Refusal) (answer : Component → TypeResolution) (t : TypeResolution) (index : Option ℕ) (inner :
    TypeInner) →
    component_outcome base refusal answer (component index inner) ≡ Given t → (index ≡ None) ⊎ IsNoStruct inner →
    own_length inner ≡ Err TypeNotIndexable → ⊥
component_has base refusal answer t index (type.Vector size scalar) e apart h = absurd (cc)
component_has base refusal answer t index (type.Matrix columns rows scalar) e apart h = absurd (cc)
component_has base refusal answer t index (type.Array item size stride) e apart h = sized size h
component_has base refusal answer t index (type.BindingArray item size) e apart h = sized size h
component_has base refusal answer t None (type.Struct span members) e apart h = absurd (cc)
component_has base refusal answer t (Some index) (type.Struct span members) e (inl none) h = absurd (cc)
component_has base refusal answer t (Some index) (type.Struct span members) e (inr apart) h = absurd apart
component_has base refusal answer t index inner e apart h = absurd (cc)

lifted_has : (types : List «Type») (base : ℕ) (index : Option ℕ) (inner : TypeInner) (t : TypeResolution) →
    lifted types base index inner ≡ Given t →
    (index ≡ None) ⊎ IfSome (accessed types inner) IsNoStruct → indexable_length types inner ≡ Err TypeNotIndexable → ⊥
lifted_has types base index (type.Pointer pointed space) t e apart h = at (slice_get types pointed) e apart h
  where
    at : (found : Option «Type») → pointed_outcome base index pointed space (found_inner found) ≡ Given t →
        (index ≡ None) ⊎ IfSome (found_inner found) IsNoStruct →
        found_length found ≡ Err TypeNotIndexable → ⊥
    at (Some found) e apart h =
        component_has base (InvalidSubAccess pointed (is_some index)) (λ reached. Value (component_pointer space reached)) t index
        found.inner e apart h
    at None e apart h = absurd (cc)
lifted_has types base index (type.ValuePointer (Some size) scalar space) t e apart h = absurd (cc)
lifted_has types base index (type.ValuePointer None scalar space) t e apart h = absurd (cc)
lifted_has types base index inner t e apart h =
    component_has base (InvalidAccess base (is_some index)) component_value t index inner e apart h

module _ (m : Module) (all : AreSizesKnown m) where
  no_array_known : (inner : TypeInner) → IsNoArray inner → HasKnownSize m inner
  no_array_known (type.Array base size stride) free = absurd free
  no_array_known (type.BindingArray base size) free = absurd free
  no_array_known inner free = tt

  known_of : (r : TypeResolution) → HoldsNoArray r → IfSome (inner_of m.types r) (HasKnownSize m)
  known_of (Value inner) free = no_array_known inner free
  known_of (Handle handle) free = at (slice_get m.types handle) refl
    where
      at : (found : Option «Type») → slice_get m.types handle ≡ found → IfSome (found_inner found) (HasKnownSize m)
      at (Some found) e =
          let P : «Type» → Type 0 = λ v. HasKnownSize m v.inner in
          subst P (get_or_from_slice_get m.types handle found found e) (all handle found (slice_get_within m.types handle found e))
      at None e = tt

  length_found : (base : ℕ) (index : Option ℕ) (t : TypeResolution) (found : Option TypeInner) → IfSome found (HasKnownSize m) →
      at_inner found (lifted m.types base index) ≡ Given t →
      (index ≡ None) ⊎ IfSome (option_and_then (accessed m.types) found) IsNoStruct → IsOk (inner_length m found)
  length_found base index t (Some inner) known e apart = elim (known_sizes_give_lengths m inner all known) [
    | inl ok ↦ ok
    | inr none ↦ absurd (lifted_has m.types base index inner t e apart none)
  ]
  length_found base index t None known e apart = absurd (cc)

pub accesses_have_lengths : AccessesHaveLengths
accesses_have_lengths m f info derived all =
    let free : (base : ℕ) (r : TypeResolution) → Records info base r → HoldsNoArray r =
    λ base r is. derived-free (function_context m f) f.expressions base r (to_derived m f info derived base r is) in
    record {
      computed = λ e base index r is_there is.
          let answer : TypeResolution → Outcome = λ reported. at_shape m.types reported (lifted m.types base None) in
          let o = given_by m f info derived e base (form.Access base index) answer r is_there refl is in
          length_found m all base None o.0 (inner_of m.types r) (known_of m all r (free base r is)) o.1 (inl refl);
      numbered = λ e base index r is_there is apart.
          let answer : TypeResolution → Outcome = λ reported. at_shape m.types reported (lifted m.types base (Some index)) in
          let o = given_by m f info derived e base (form.AccessIndex base index) answer r is_there refl is in
          length_found m all base (Some index) o.0 (inner_of m.types r) (known_of m all r (free base r is)) o.1 (inr apart);
    }
