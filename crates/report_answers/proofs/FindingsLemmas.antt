-- What is found of a module is determined, except for which of several faults, causes or sources is named.
use Rattle.std.proofs.Common.{◌≡◌, ◌≢◌, ◌∙◌, ap, subst, sym, refl, ℕ, ◌<◌, ◌≤◌, ◌⊎◌, inl, inr, Bool, true, false, ◌&&◌, arith}
use Rattle.std.proofs.Common.{List, [], ◌∷◌, Option, Some, None, Result, Ok, Err, is_none, length, map, slice_get}
use Rattle.std.specs.Prelude.{unwrap_or}
use Rattle.std.specs.Result.{result_unwrap_or}
use Rattle.std.specs.Option.{option_map}
use Rattle.std.proofs.lemmas.Bool.{cases_order}
use Rattle.std.proofs.lemmas.Option.{same_Some, slice_get_within}
use Rattle.report_model.specs.Analyzed.{AreLayouts, IsAnalyzed, IsInfo, IsUniformityIf, is_accepted, is_sound}
use Rattle.report_model.specs.declared.analyzed.Analysis.{Analysis}
use Rattle.report_model.specs.declared.analyzed.Analyzed.{Analyzed}
use Rattle.report_model.specs.declared.analyzed.Analyzed.TheVariants.{Fault, WellFormed}
use Rattle.shader_analysis.specs.Processed.{site_of}
use Rattle.shader_analysis.specs.Recorded.{Recorded}
use Rattle.shader_analysis.specs.Validity.{HasLayoutFault}
use Rattle.shader_analysis_spec.specs.Faults.{BindingArrayElement, Cause, ComesBefore, CountFull, IsFirstFault, MissingCapability}
use Rattle.shader_analysis_spec.specs.Faults.{NoResource, NonUniformControlFlow, OfEntryPoint, OfFunction, OfGlobalExpression, Settings}
use Rattle.shader_analysis_spec.specs.Faults.{Site, Untyped}
use Rattle.shader_analysis_spec.specs.Needs.{has_need}
use Rattle.shader_analysis_spec.specs.Program.{Module}
use Rattle.shader_info.specs.declared.error.AnalysisError.{AnalysisError}
use Rattle.shader_info.specs.declared.error.AnalysisLocation.{AnalysisLocation}
use Rattle.shader_info.specs.declared.error.AnalysisLocation.TheVariants as location
use Rattle.shader_info.specs.declared.error.ExpressionError.{ExpressionError}
use Rattle.shader_info.specs.declared.error.ExpressionError.TheVariants as expression
use Rattle.shader_info.specs.declared.error.FunctionError.{FunctionError}
use Rattle.shader_info.specs.declared.error.FunctionError.TheVariants as error
use Rattle.shader_ir.specs.KnownNumbers.{constant_index, index_in, index_size, initial_index, optional_index, override_index, sizer}
use Rattle.shader_ir.specs.KnownNumbers.{sizing}
use Rattle.shader_ir.specs.Layout.{alignment_of, fault_at, layout_fault, layout_of, layouts_of, size_of_type, sized_fault}
use Rattle.shader_ir.specs.Sizes.{array_bytes, array_count}
use Rattle.shader_ir.specs.TypeTree.{TypeTree, root_of, tree_of}
use Rattle.shader_ir.specs.declared.expression.Expression.{Expression}
use Rattle.shader_ir.specs.declared.expression.Expression.TheVariants as form
use Rattle.shader_ir.specs.declared.module.Constant.{Constant}
use Rattle.shader_ir.specs.declared.module.GlobalCtx.{GlobalCtx}
use Rattle.shader_ir.specs.declared.proc.layouter.LayoutError.{LayoutError}
use Rattle.shader_ir.specs.declared.proc.layouter.LayoutErrorInner.{LayoutErrorInner}
use Rattle.shader_ir.specs.declared.proc.layouter.TypeLayout.{TypeLayout}
use Rattle.shader_ir.specs.declared.module.Override.{Override}
use Rattle.shader_ir.specs.declared.types.ArraySize.{ArraySize}
use Rattle.shader_ir.specs.declared.types.ArraySize.TheVariants.{Pending}
use Rattle.shader_ir.specs.declared.types.Type.{«Type»}
use Rattle.shader_ir.specs.declared.types.TypeInner.{TypeInner}
use Rattle.shader_ir.specs.declared.types.TypeInner.TheVariants.{Array}
use Rattle.shader_passes.specs.Causes.{IsNamed, IsNamedOf, disruptor_of}
use Rattle.shader_resolve.specs.ContextLaws.{IsCtxOf}
use Rattle.shader_resolve.specs.FaultyLocations.{IsFirstModuleFault, LocationLacks, OccursFirst, locations}
use Rattle.shader_resolve.specs.Outcome.{refusal_of}
use Rattle.shader_resolve.specs.WellFormed.{IsWellFormed, Lacks}
use Rattle.shader_resolve.specs.declared.well_formed.ModuleFault.{ModuleFault}
use Rattle.shader_resolve.specs.declared.well_formed.ModuleFault.TheVariants.{HandleOutOfRange, TypeNotEarlier, OperandNotEarlier}
use Rattle.shader_resolve.specs.declared.well_formed.ModuleFault.TheVariants.{CalleeNotEarlier, ArgumentCount, FilterNotEarlier}
use Rattle.shader_resolve.specs.declared.well_formed.ModuleFault.TheVariants.{ValuePointerArgument, EmitRange}
use Rattle.shader_uniformity.specs.declared.divergence.Uniformity.{Uniformity}
use Rattle.shader_uniformity.specs.declared.facts.BodyLocation.{BodyLocation}
use Rattle.report_answers.proofs.FlowLemmas.{verdict_same}
use Rattle.report_answers.proofs.InfoLemmas.{records_agree}
use Rattle.report_answers.specs.Laws.{AnalysesAgree, FindingsAgree, FindingsAreDetermined, ResultsAgree}

-- ---- faults of a module that isn't well formed

has_none : (m : Module) → IsWellFormed m → (fault : ModuleFault) → Lacks m fault
has_none m w HandleOutOfRange = w.handles
has_none m w TypeNotEarlier = w.types
has_none m w OperandNotEarlier = w.operands
has_none m w CalleeNotEarlier = w.callees
has_none m w ArgumentCount = w.argument_counts
has_none m w FilterNotEarlier = w.filters
has_none m w ValuePointerArgument = w.arguments
has_none m w EmitRange = w.emits

-- two faults at the first faulty location
same_first : {P : Type 0} (Lacks : P → ModuleFault → Type 0) (ps : List P) (p q : P) (fault other : ModuleFault) →
    OccursFirst Lacks ps p fault → OccursFirst Lacks ps q other → p ≡ q
same_first Lacks [] p q fault other h k = absurd h
same_first Lacks (here ∷ later) p q fault other (inl one) (inl two) = sym one.0 ∙ two.0
same_first Lacks (here ∷ later) p q fault other (inl one) (inr none) = absurd (one.1 (none.0 fault))
same_first Lacks (here ∷ later) p q fault other (inr none) (inl two) = absurd (two.1 (none.0 other))
same_first Lacks (here ∷ later) p q fault other (inr one) (inr two) = same_first Lacks later p q fault other one.1 two.1

-- ---- layouts

-- contexts of the same items
module _ (m : Module) (x y : GlobalCtx) (of : IsCtxOf m x) (of' : IsCtxOf m y) where
  expressions_are : x.global_expressions.now ≡ y.global_expressions.now
  expressions_are = of.global_expressions ∙ sym of'.global_expressions

  constant_same : (found : Option Constant) → constant_index x found ≡ constant_index y found
  constant_same None = refl
  constant_same (Some constant) = ap (λ expressions. initial_index expressions constant.init) expressions_are

  optional_same : (init : Option ℕ) → optional_index x init ≡ optional_index y init
  optional_same None = refl
  optional_same (Some init) = ap (λ expressions. initial_index expressions init) expressions_are

  override_same : (found : Option Override) → override_index x found ≡ override_index y found
  override_same None = refl
  override_same (Some override) = optional_same override.init

  index_same : (found : Option Expression) → index_in x found ≡ index_in y found
  index_same (Some (form.Constant handle)) =
      ap (λ constants. constant_index x (slice_get constants handle)) (of.constants ∙ sym of'.constants)
      ∙ constant_same (slice_get y.constants.now handle)
  index_same (Some (form.Override handle)) =
      ap (λ overrides. override_index x (slice_get overrides handle)) (of.overrides ∙ sym of'.overrides)
      ∙ override_same (slice_get y.overrides.now handle)
  index_same _ = refl

  sizing_same : (init : Option ℕ) → sizing x init ≡ sizing y init
  sizing_same None = refl
  sizing_same (Some init) =
      ap (λ expressions. index_size (index_in x (slice_get expressions init))) expressions_are
      ∙ ap index_size (index_same (slice_get y.global_expressions.now init))

  sizer_same : (found : Option Override) → sizer x found ≡ sizer y found
  sizer_same None = refl
  sizer_same (Some override) = sizing_same override.init

  count_same : (size : ArraySize) → array_count x size ≡ array_count y size
  count_same (Pending handle) =
      ap (λ overrides. result_unwrap_or (sizer x (slice_get overrides handle)) 0) (of.overrides ∙ sym of'.overrides)
      ∙ ap (λ size. result_unwrap_or size 0) (sizer_same (slice_get y.overrides.now handle))
  count_same size = refl

  size_same : (inner : TypeInner) → size_of_type x inner ≡ size_of_type y inner
  size_same (Array base size stride) = ap (λ count. array_bytes count stride) (count_same size)
  size_same inner = refl

  fault_same : (position : ℕ) → fault_at x position ≡ fault_at y position
  fault_same position =
      ap (λ (types : List «Type»). option_map (λ (type : «Type»). layout_fault x position type.inner) (slice_get types position))
      (of.types ∙ sym of'.types)
      ∙ by (slice_get y.types.now position)
    where
      by : (found : Option «Type») → option_map (λ (type : «Type»). layout_fault x position type.inner) found
          ≡ option_map (λ (type : «Type»). layout_fault y position type.inner) found
      by None = refl
      by (Some type) = ap (λ size. Some (sized_fault size position type.inner)) (size_same type.inner)

  layout_same : (tree : TypeTree) → layout_of x tree ≡ layout_of y tree
  layout_same tree =
      let with_size = λ (size : Option ℕ). let layout : TypeLayout = record { size = unwrap_or size 0; alignment = alignment_of tree } in
      layout in
      ap with_size (size_same (root_of tree))

  all_layouts_same : layouts_of x ≡ layouts_of y
  all_layouts_same =
      ap (λ (types : List «Type»). map (λ (type : «Type»). layout_of x (tree_of types type.inner)) types) (of.types ∙ sym of'.types)
      ∙ (λ i. map (λ (type : «Type»). layout_same (tree_of y.types.now type.inner) i) y.types.now)

fault_within : (ctx : GlobalCtx) (position : ℕ) (fault : Option LayoutErrorInner) → fault_at ctx position ≡ Some fault →
    position < length ctx.types.now
fault_within ctx position fault is = by (slice_get ctx.types.now position) refl is
  where
    by : (found : Option «Type») → slice_get ctx.types.now position ≡ found →
        option_map (λ (type : «Type»). layout_fault ctx position type.inner) found ≡ Some fault → position < length ctx.types.now
    by None at is = absurd (cc)
    by (Some type) at is = slice_get_within ctx.types.now position type at

module _ (m : Module) where
  -- a type without a layout, and one that has one
  no_fault : (ctx : GlobalCtx) (position : ℕ) (inner : LayoutErrorInner) → fault_at ctx position ≡ Some None →
      fault_at ctx position ≡ Some (Some inner) → ⊥
  no_fault ctx position inner none is = let same = sym none ∙ is in cc

  no_error : (layouts : List TypeLayout) (error : LayoutError) → AreLayouts m layouts None → HasLayoutFault m error → ⊥
  no_error layouts error all fault =
      let is = sym (fault_same m fault.ctx all.ctx fault.of all.of error.ty) ∙ fault.fault in
      let lt = subst (λ types. error.ty < length types) all.of.types (fault_within all.ctx error.ty (Some error.inner) is) in
      no_fault all.ctx error.ty error.inner (all.faultless error.ty (omega arith) lt) is

  layout_error_same : (layouts others : List TypeLayout) (one other : Option LayoutError) → AreLayouts m layouts one →
      AreLayouts m others other → one ≡ other
  layout_error_same layouts others None None all all' = refl
  layout_error_same layouts others None (Some error) all fault = absurd (no_error layouts error all fault)
  layout_error_same layouts others (Some error) None fault all = absurd (no_error others error all fault)
  layout_error_same layouts others (Some a) (Some b) x y =
      let first = sym (fault_same m x.ctx y.ctx x.of y.of a.ty) ∙ x.fault in
      elim (cases_order a.ty b.ty) [
        | inl e ↦
            let second = subst (λ ty. fault_at y.ctx ty ≡ Some (Some b.inner)) (sym e) y.fault in
            let inner = same_Some a.inner b.inner (same_Some (Some a.inner) (Some b.inner) (sym first ∙ second)) in
            ap (λ (v : LayoutError). Some v) (ap (λ (v : ℕ). record a { ty = v }) e
            ∙ ap (λ (v : LayoutErrorInner). record b { inner = v }) inner)
        | inr other ↦ elim other [
          | inl lt ↦ absurd (no_fault y.ctx a.ty a.inner (y.earlier a.ty (omega arith) lt) first)
          | inr gt ↦
              let earlier = sym (fault_same m x.ctx y.ctx x.of y.of b.ty) ∙ x.earlier b.ty (omega arith) gt in
              absurd (no_fault y.ctx b.ty b.inner earlier y.fault)
        ]
      ]

  layouts_same : (layouts others : List TypeLayout) (one other : Option LayoutError) → AreLayouts m layouts one →
      AreLayouts m others other → one ≡ None → layouts ≡ others
  layouts_same layouts others None None all all' none = all.all ∙ all_layouts_same m all.ctx all'.ctx all.of all'.of ∙ sym all'.all
  layouts_same layouts others None (Some error) all fault none = absurd (no_error layouts error all fault)
  layouts_same layouts others (Some error) other fault found none = absurd (cc)

-- ---- the analysis

-- of two items of a module one comes first, or they are the same
data Order (s t : Site) : Type 0 where
  before : ComesBefore s t → Order s t
  same : s ≡ t → Order s t
  after : ComesBefore t s → Order s t

number_order : (a b : ℕ) (site : ℕ → Site) → (a < b → ComesBefore (site a) (site b)) → (b < a → ComesBefore (site b) (site a)) →
    Order (site a) (site b)
number_order a b site less more = elim (cases_order a b) [
  | inl e ↦ same (ap site e)
  | inr other ↦ elim other [ inl lt ↦ before (less lt) | inr gt ↦ after (more gt) ]
]

order : (s t : Site) → Order s t
order (OfGlobalExpression a) (OfGlobalExpression b) = number_order a b OfGlobalExpression (λ lt. lt) (λ gt. gt)
order (OfGlobalExpression a) (OfFunction b) = before tt
order (OfGlobalExpression a) (OfEntryPoint b) = before tt
order (OfFunction a) (OfGlobalExpression b) = after tt
order (OfFunction a) (OfFunction b) = number_order a b OfFunction (λ lt. lt) (λ gt. gt)
order (OfFunction a) (OfEntryPoint b) = before tt
order (OfEntryPoint a) (OfGlobalExpression b) = after tt
order (OfEntryPoint a) (OfFunction b) = after tt
order (OfEntryPoint a) (OfEntryPoint b) = number_order a b OfEntryPoint (λ lt. lt) (λ gt. gt)

same_location : (p q : AnalysisLocation) → site_of p ≡ site_of q → p ≡ q
same_location (location.ConstExpression a) (location.ConstExpression b) e = let i : a ≡ b = cc in ap location.ConstExpression i
same_location (location.ConstExpression a) (location.Function b) e = cc
same_location (location.ConstExpression a) (location.EntryPoint b) e = cc
same_location (location.Function a) (location.ConstExpression b) e = cc
same_location (location.Function a) (location.Function b) e = let i : a ≡ b = cc in ap location.Function i
same_location (location.Function a) (location.EntryPoint b) e = cc
same_location (location.EntryPoint a) (location.ConstExpression b) e = cc
same_location (location.EntryPoint a) (location.Function b) e = cc
same_location (location.EntryPoint a) (location.EntryPoint b) e = let i : a ≡ b = cc in ap location.EntryPoint i

-- an error that is no allocation failure names a cause
module _ (IsCause : Cause → Type 0) where
  named_of : (e : ℕ) (failure : ExpressionError) → IsNamedOf IsCause e failure → (cause : Cause) × IsCause cause
  named_of e (expression.Resolve failure) h = (Untyped e (refusal_of failure), h)
  named_of e (expression.MissingCapabilities wanted) h = (MissingCapability e h.0, h.2)
  named_of e expression.ExpectedGlobalOrArgument h = (NoResource e, h)
  named_of e expression.BindingArrayElement h = (BindingArrayElement e, h)

  named : (failure : FunctionError) → failure ≢ error.OutOfMemory → IsNamed IsCause failure → (cause : Cause) × IsCause cause
  named (error.Expression e source) real h = named_of e source h
  named (error.NonUniformControlFlow needs e disruptor) real h = (NonUniformControlFlow (has_need needs.0) e (disruptor_of disruptor), h.1)
  named (error.CountFull e) real h = (CountFull e, h)
  named error.OutOfMemory real h = absurd (real refl)

module _ (m : Module) (settings : Settings) where
  same_site : (s t : Site) (c d : Cause) → IsFirstFault m settings s c → IsFirstFault m settings t d → s ≡ t
  same_site s t c d x y = elim (order s t) [
    | before b ↦ absurd (y.first s c b x.is_there)
    | same e ↦ e
    | after b ↦ absurd (x.first t d b y.is_there)
  ]

  results_agree : (one other : Result Recorded AnalysisError) → IsInfo m settings one → IsInfo m settings other → ResultsAgree one other
  results_agree (Ok one) (Ok other) x y =
      records_agree m one other x.exact y.exact x.pairs y.pairs x.unrestricted y.unrestricted
  results_agree (Ok one) (Err failure) x y =
      let found = named (IsFirstFault m settings (site_of failure.place)) failure.cause y.fault y.first in
      absurd (x.accepted (site_of failure.place) found.0 found.1.is_there)
  results_agree (Err failure) (Ok other) x y =
      let found = named (IsFirstFault m settings (site_of failure.place)) failure.cause x.fault x.first in
      absurd (y.accepted (site_of failure.place) found.0 found.1.is_there)
  results_agree (Err one) (Err other) x y =
      let c = named (IsFirstFault m settings (site_of one.place)) one.cause x.fault x.first in
      let d = named (IsFirstFault m settings (site_of other.place)) other.cause y.fault y.first in
      same_location one.place other.place (same_site (site_of one.place) (site_of other.place) c.0 d.0 c.1 d.1)

-- ---- uniform flow

abbrev fault_of : Option Uniformity → Option (Option BodyLocation)
fault_of found = option_map (λ found. found.fault) found

both_sound : (one other : Option LayoutError) (info info' : Result Recorded AnalysisError) → one ≡ other → ResultsAgree info info' →
    is_sound one info ≡ is_sound other info'
both_sound one other (Ok info) (Ok info') errors agree = ap (λ (e : Option LayoutError). is_none e && true) errors
both_sound one other (Ok info) (Err error) errors agree = absurd agree
both_sound one other (Err error) (Ok info) errors agree = absurd agree
both_sound one other (Err error) (Err error') errors agree = ap (λ (e : Option LayoutError). is_none e && false) errors

flow_same : (m : Module) (decided : Bool) (one other : Option Uniformity) → IsUniformityIf m decided one →
    IsUniformityIf m decided other → fault_of one ≡ fault_of other
flow_same m true (Some x) (Some y) is is' =
    ap (λ (v : Option BodyLocation). Some v) (verdict_same m x.functions y.functions x.fault y.fault is.functions is'.functions
    is.fault is'.fault)
flow_same m true (Some x) None is is' = absurd is'
flow_same m true None other is is' = absurd is
flow_same m false one other is is' = ap fault_of (is ∙ sym is')

-- ---- all that is found

pub findings_are_determined : FindingsAreDetermined
findings_are_determined m settings checks (Fault one) (Fault other) x y =
    same_first (LocationLacks m) (locations m) one.location other.location one.fault other.fault x.first y.first
findings_are_determined m settings checks (Fault one) (WellFormed other) x y = absurd (x.is_there (has_none m y.well_formed one.fault))
findings_are_determined m settings checks (WellFormed one) (Fault other) x y = absurd (y.is_there (has_none m x.well_formed other.fault))
findings_are_determined m settings checks (WellFormed one) (WellFormed other) x y =
    let errors = layout_error_same m one.layouts other.layouts one.layout_error other.layout_error x.layouts y.layouts in
    let infos = results_agree m settings one.info other.info x.info y.info in
    let sound = both_sound one.layout_error other.layout_error one.info other.info errors infos in
    record {
      layout_error = errors;
      layouts = layouts_same m one.layouts other.layouts one.layout_error other.layout_error x.layouts y.layouts;
      info = infos;
      flow = flow_same m (checks && is_sound other.layout_error other.info) one.uniformity other.uniformity
          (subst (λ b. IsUniformityIf m (checks && b) one.uniformity) sound x.uniformity) y.uniformity;
    }

-- the verdict on what is found of a well-formed module
abbrev verdict : Option LayoutError → Result Recorded AnalysisError → Option Uniformity → Bool
verdict layout_error info flow =
    is_accepted (WellFormed (record { layouts = []; layout_error = layout_error; info = info; uniformity = flow }))

verdict_by_sound : (one other : Option LayoutError) (info info' : Result Recorded AnalysisError) (flow : Option Uniformity) →
    is_sound one info ≡ is_sound other info' → verdict one info flow ≡ verdict other info' flow
verdict_by_sound one other info info' None sound = sound
verdict_by_sound one other info info' (Some found) sound = refl

verdict_by_flow : (layout_error : Option LayoutError) (info : Result Recorded AnalysisError) (one other : Option Uniformity) →
    fault_of one ≡ fault_of other → verdict layout_error info one ≡ verdict layout_error info other
verdict_by_flow layout_error info None None alike = refl
verdict_by_flow layout_error info None (Some y) alike = absurd (cc)
verdict_by_flow layout_error info (Some x) None alike = absurd (cc)
verdict_by_flow layout_error info (Some x) (Some y) alike = ap is_none (same_Some x.fault y.fault alike)

-- so is the verdict
pub accepted_same : (one other : Analyzed) → FindingsAgree one other → is_accepted one ≡ is_accepted other
accepted_same (Fault one) (Fault other) agree = refl
accepted_same (Fault one) (WellFormed other) agree = absurd agree
accepted_same (WellFormed one) (Fault other) agree = absurd agree
accepted_same (WellFormed one) (WellFormed other) agree =
    let sound = both_sound one.layout_error other.layout_error one.info other.info agree.layout_error agree.info in
    verdict_by_sound one.layout_error other.layout_error one.info other.info one.uniformity sound
    ∙ verdict_by_flow other.layout_error other.info one.uniformity other.uniformity agree.flow
