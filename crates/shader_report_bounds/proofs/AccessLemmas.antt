-- Accesses of the report, and those that need a check.
use Rattle.std.proofs.Common.{◌≡◌, ◌∙◌, ◌↔◌, ◌<◌, refl, sym, ap, subst, ℕ, List, [], ◌∷◌, Option, Some, None, Ok, Err, IsOk, IfSome}
use Rattle.std.proofs.Common.{inl, inr, nat_lt, option_and_then, option_map, option_to_list, slice_get, arith}
use Rattle.std.specs.List.{Contains, enumerate_from}
use Rattle.std.proofs.lemmas.Bool.{cases_lt, cond-false, cond-true, le-ltb, lt-ltb}
use Rattle.std.proofs.lemmas.Option.{same_Some}
use Rattle.shader_analysis_spec.proofs.ListLemmas.{cases, here, in_flat, nowhere, of_flat}
use Rattle.shader_analysis_spec.proofs.RetainedLemmas.{at_occurs, is_there_at}
use Rattle.shader_analysis_spec.specs.Program.{Expression, Function, Module, IsExpressionAt}
use Rattle.shader_bounds.proofs.LawLemmas.{accesses_have_lengths}
use Rattle.shader_bounds.specs.Checked.{AccessNeedsCheck, NeedsCheck, StepsIntoNoStruct, accessed}
use Rattle.shader_bounds.specs.Guarded.{IndexIsBelow, guarded_index}
use Rattle.shader_bounds.specs.Laws.{HaveLengths}
use Rattle.shader_bounds.specs.Lengths.{Answer, base_length, found_length, inner_length, own_length, resolved, resolved_length}
use Rattle.shader_bounds.specs.Typed.{Records, length_at, type_at}
use Rattle.shader_bounds.specs.declared.guarded.GuardedIndex.{GuardedIndex}
use Rattle.shader_bounds.specs.declared.guarded.GuardedIndex.TheVariants.{Known, Expression as Computed}
use Rattle.shader_bounds.specs.declared.lengths.IndexableLength.{IndexableLength}
use Rattle.shader_bounds.specs.declared.lengths.IndexableLength.TheVariants as lengths
use Rattle.shader_bounds.specs.declared.policies.BoundsCheckPolicies.{BoundsCheckPolicies}
use Rattle.shader_info.specs.declared.info.FunctionInfo.{FunctionInfo}
use Rattle.shader_ir.specs.Key.{IsNoStruct, found_inner, inner_of}
use Rattle.shader_ir.specs.declared.expression.Expression.TheVariants as form
use Rattle.shader_ir.specs.declared.proc.known_numbers.KnownIndex.{KnownIndex}
use Rattle.shader_ir.specs.declared.proc.known_numbers.KnownIndex.TheVariants as known
use Rattle.shader_ir.specs.declared.proc.type_resolution.TypeResolution.{TypeResolution}
use Rattle.shader_ir.specs.declared.types.«Type».{«Type»}
use Rattle.shader_ir.specs.declared.types.TypeInner.{TypeInner}
use Rattle.shader_ir.specs.declared.types.TypeInner.TheVariants as type
use Rattle.shader_report_bounds.specs.Accesses.{accesses_of, check_at, check_of, unmet_at, unmet_by}
use Rattle.shader_report_bounds.specs.Laws.{AccessesAreThoseChecked, IsReported}
use Rattle.shader_report_bounds.specs.declared.accesses.AccessCheck.{AccessCheck}
use Rattle.shader_report_bounds.specs.declared.accesses.AccessIndex.{AccessIndex}
use Rattle.shader_report_bounds.specs.declared.accesses.AccessIndex.TheVariants as at

-- ---- an index and a length

not_below : (index : KnownIndex) (length : Answer) (left : IndexableLength) → IndexIsBelow index length →
    unmet_by index length ≡ Some left → ⊥
not_below (known.Known i) (Ok (lengths.Known n)) left below is =
    let none : None ≡ Some left = sym (cond-true (nat_lt i n) None (Some (lengths.Known n)) (lt-ltb i n below)) ∙ is in absurd (cc)
not_below index length left below is = absurd below

left_over : (index : KnownIndex) (length : Answer) → IsOk length → (IndexIsBelow index length → ⊥) →
    (left : IndexableLength) × (unmet_by index length ≡ Some left)
left_over index (Err error) ok past = absurd (cc)
left_over (known.Known i) (Ok (lengths.Known n)) ok past = elim (cases_lt i n) [
  | inl below ↦ absurd (past below)
  | inr above ↦ (lengths.Known n, cond-false (nat_lt i n) None (Some (lengths.Known n)) (le-ltb i n above))
]
left_over (known.Known i) (Ok lengths.Dynamic) ok past = (lengths.Dynamic, refl)
left_over known.OutOfRange (Ok length) ok past = (length, refl)
left_over known.NotInteger (Ok length) ok past = (length, refl)

has_length : (index : KnownIndex) (length : Answer) (left : IndexableLength) → unmet_by index length ≡ Some left → IsOk length
has_length index (Ok length) left is = refl
has_length index (Err error) left is = absurd (cc)

-- ---- a base that has a length is no struct

module _ (m : Module) where
  own_no_struct : (inner : TypeInner) → IsOk (resolved m (own_length inner)) → IsNoStruct inner
  own_no_struct (type.Struct span members) ok = absurd (cc)
  own_no_struct inner ok = tt

  found_no_struct : (found : Option «Type») → IsOk (resolved m (found_length found)) → IfSome (found_inner found) IsNoStruct
  found_no_struct None ok = tt
  found_no_struct (Some type) ok = own_no_struct type.inner ok

  inner_no_struct : (inner : TypeInner) → IsOk (resolved_length m inner) → IfSome (accessed m.types inner) IsNoStruct
  inner_no_struct (type.Pointer base space) ok = found_no_struct (slice_get m.types base) ok
  inner_no_struct (type.Struct span members) ok = absurd (cc)
  inner_no_struct inner ok = tt

  no_struct : (inner : Option TypeInner) → IsOk (inner_length m inner) → IfSome (option_and_then (accessed m.types) inner) IsNoStruct
  no_struct None ok = tt
  no_struct (Some inner) ok = inner_no_struct inner ok

-- ---- the check of an expression

module _ (m : Module) (f : Function) (info : FunctionInfo) where
  needs : (base : ℕ) (index : GuardedIndex) (left : IndexableLength) → unmet_at m f info base index ≡ Some left →
      StepsIntoNoStruct m (Records info) base × NeedsCheck m f (Records info) base index
  needs base index left = by (type_at info base) refl
    where
      by : (found : Option TypeResolution) → type_at info base ≡ found →
          unmet_by (guarded_index m f.expressions index) (length_at m found) ≡ Some left →
          StepsIntoNoStruct m (Records info) base × NeedsCheck m f (Records info) base index
      by None typed is = absurd (cc)
      by (Some resolution) typed is =
          let own = guarded_index m f.expressions index in
          let ok = has_length own (base_length m resolution) left is in (
            record { resolution = resolution; typed = typed; no_member = no_struct m (inner_of m.types resolution) ok },
            record {
              resolution = resolution;
              typed = typed;
              unknown = λ below. not_below own (base_length m resolution) left below is;
            },
          )

  left_at : (base : ℕ) (index : GuardedIndex) (need : NeedsCheck m f (Records info) base index) → IsOk (base_length m need.resolution) →
      (left : IndexableLength) × (unmet_at m f info base index ≡ Some left)
  left_at base index need ok =
      let own = guarded_index m f.expressions index in
      let left = left_over own (base_length m need.resolution) ok need.unknown in
      (left.0, ap (λ found. unmet_by own (length_at m found)) need.typed ∙ left.1)

  module _ (policies : BoundsCheckPolicies) where
    of_length : (access base : ℕ) (index : AccessIndex) (left : Option IndexableLength) (found : AccessCheck) →
        check_at m f info policies access base index left ≡ Some found →
        (length : IndexableLength) × (left ≡ Some length) × (found.access ≡ access)
    of_length access base index None found is = absurd (cc)
    of_length access base index (Some length) found is =
        (length, refl, sym (ap (λ (c : AccessCheck). c.access) (same_Some _ _ is)))

    to_need : (e : ℕ) (x : Expression) (found : AccessCheck) → check_of m f info policies e x ≡ Some found →
        AccessNeedsCheck m f (Records info) x × (found.access ≡ e)
    to_need e (form.Access base index) found is =
        let left = of_length e base (at.Computed index) (unmet_at m f info base (Computed index)) found is in
        ((needs base (Computed index) left.0 left.1).1, left.2)
    to_need e (form.AccessIndex base index) found is =
        let left = of_length e base (at.Known index) (unmet_at m f info base (Known index)) found is in
        (needs base (Known index) left.0 left.1, left.2)
    to_need e x found is = absurd (cc)

    reported_at : (access base : ℕ) (index : AccessIndex) (left : Option IndexableLength) (length : IndexableLength) → left ≡ Some length →
        (found : AccessCheck) × (check_at m f info policies access base index left ≡ Some found) × (found.access ≡ access)
    reported_at access base index None length is = absurd (cc)
    reported_at access base index (Some own) length is = (_, refl, refl)

    from_need : (have : HaveLengths m f info) (e : ℕ) (x : Expression) → IsExpressionAt f e x → AccessNeedsCheck m f (Records info) x →
        (found : AccessCheck) × (check_of m f info policies e x ≡ Some found) × (found.access ≡ e)
    from_need have e (form.Access base index) there need =
        let left = left_at base (Computed index) need (have.computed e base index need.resolution there need.typed) in
        reported_at e base (at.Computed index) (unmet_at m f info base (Computed index)) left.0 left.1
    from_need have e (form.AccessIndex base index) there need =
        let step = need.0 in
        let own = need.1 in
        let same : step.resolution ≡ own.resolution = same_Some _ _ (sym step.typed ∙ own.typed) in
        let ok = subst (λ r. IsOk (base_length m r)) same (have.numbered e base index step.resolution there step.typed step.no_member) in
        let left = left_at base (Known index) own ok in
        reported_at e base (at.Known index) (unmet_at m f info base (Known index)) left.0 left.1
    from_need have e x there need = absurd need

    -- ---- the list of them

    listed : (o : Option AccessCheck) (found : AccessCheck) → Contains (option_to_list o) found → o ≡ Some found
    listed None found h = absurd (nowhere found h)
    listed (Some own) found h = elim (cases own [] found h) [ inl is ↦ ap (λ c. Some c) is | inr none ↦ absurd (nowhere found none) ]

    in_list : (o : Option AccessCheck) (found : AccessCheck) → o ≡ Some found → Contains (option_to_list o) found
    in_list o found is = subst (λ v. Contains (option_to_list v) found) (sym is) (here found [])

    abbrev checks_at : ℕ × Expression → List AccessCheck
    checks_at entry = option_to_list (check_of m f info policies entry.0 entry.1)

    pub to_check : (e : ℕ) (x : Expression) → IsExpressionAt f e x → IsReported m f info policies e →
        AccessNeedsCheck m f (Records info) x
    to_check e x spot reported =
        let found = reported.0 in
        let entry = in_flat checks_at (enumerate_from 0 f.expressions) found reported.1 in
        let need = to_need entry.0.0 entry.0.1 found (listed (check_of m f info policies entry.0.0 entry.0.1) found entry.2) in
        let position : entry.0.0 ≡ e = sym need.1 ∙ reported.2 in
        let there : slice_get f.expressions e ≡ Some entry.0.1 =
        subst (λ v. slice_get f.expressions v ≡ Some entry.0.1) position (is_there_at f.expressions entry.0 entry.1) in
        let same : entry.0.1 ≡ x = same_Some _ _ (sym there ∙ spot) in
        subst (AccessNeedsCheck m f (Records info)) same need.0

    pub from_check : HaveLengths m f info → (e : ℕ) (x : Expression) → IsExpressionAt f e x → AccessNeedsCheck m f (Records info) x →
        IsReported m f info policies e
    from_check have e x spot need =
        let found = from_need have e x spot need in (
          found.0,
          of_flat checks_at (enumerate_from 0 f.expressions) (e, x) found.0 (at_occurs f.expressions e x spot)
              (in_list (check_of m f info policies e x) found.0 found.1),
          found.2,
        )

pub accesses_are_those_checked : AccessesAreThoseChecked
accesses_are_those_checked m f info policies derived sizes e x spot =
    (to_check m f info policies e x spot, from_check m f info policies (accesses_have_lengths m f info derived sizes) e x spot)
