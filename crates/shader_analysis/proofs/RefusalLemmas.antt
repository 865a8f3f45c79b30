-- One more function or entry point, if the infos of those before it are exact.
use Rattle.std.proofs.Common.{◌≡◌, refl, sym, ap, subst, ◌∙◌, ℕ, ◌+◌, ◌<◌, List, [], ◌∷◌}
use Rattle.std.proofs.Common.{◌++◌, Some, slice_get, length, arith, length-append}
use Rattle.std.proofs.lemmas.List.{length-map}
use Rattle.std.proofs.lemmas.Option.{slice_get_within, same_Some}
use Rattle.shader_analysis_spec.specs.Derivable.{AreTypes, IsRefused}
use Rattle.shader_analysis_spec.specs.Exact.{IsExact, IsExactModule}
use Rattle.shader_analysis_spec.specs.Faults.{Cause, ComesBefore, IsAccepted, IsFault, IsFirstFault, ModuleFault, OfEntryPoint, OfFunction}
use Rattle.shader_analysis_spec.specs.Faults.{OfGlobalExpression, Settings, Site, in_entry_point, in_expression, in_function}
use Rattle.shader_analysis_spec.specs.StepFaults.{StepFault}
use Rattle.shader_analysis_spec.specs.Infos.{EachNamed, Info, NamesEarlier, Pairwise}
use Rattle.shader_analysis_spec.specs.Program.{Function, Module}
use Rattle.shader_analysis_spec.specs.Steps.{MeetsSteps}
use Rattle.shader_analysis_spec.proofs.EarlierLemmas.{point_backwards}
use Rattle.shader_analysis_spec.proofs.FaultLemmas.{faults_agree}
use Rattle.shader_analysis_spec.proofs.StoredLemmas.{entry_is_exact, named_within, next_is_exact}
use Rattle.shader_analysis_spec.proofs.TypeLemmas.{types_are_unique}
use Rattle.shader_expression_types.proofs.ListLemmas.{one_more, up_to_here}
use Rattle.shader_info.specs.Fit.{Fits}
use Rattle.shader_info.specs.declared.error.FunctionError.{FunctionError}
use Rattle.shader_info.specs.declared.error.FunctionError.TheVariants as error
use Rattle.shader_info.specs.declared.error.ExpressionError.TheVariants as expression
use Rattle.shader_info.specs.declared.info.FunctionInfo.{FunctionInfo}
use Rattle.shader_ir.specs.declared.function.EntryPoint.{EntryPoint}
use Rattle.shader_ir.specs.declared.proc.type_resolution.TypeResolution.{TypeResolution}
use Rattle.shader_resolve.specs.Context.{context_of}
use Rattle.shader_resolve.specs.Outcome.{Refusal}
use Rattle.shader_resolve.specs.WellFormed.{IsWellFormed}
use Rattle.shader_passes.specs.Causes.{IsNamed}
use Rattle.shader_passes.proofs.StoredInfoLemmas.{of_stored}
use Rattle.shader_passes.specs.InfoOf.{info_of, infos_of}
use Rattle.shader_passes.specs.RecordedPairs.{HaveArguments}
use Rattle.shader_analysis.proofs.PositionLemmas.{found_at}
use Rattle.shader_analysis.specs.Analyzed.{EntryPointsAnalyzed, FunctionsAnalyzed}
use Rattle.shader_analysis.specs.Fitting.{IsUnrestricted}
use Rattle.shader_analysis.specs.Reached.{IsReached}

infos_of-push : (stored : List FunctionInfo) (info : FunctionInfo) → infos_of (stored ++ info ∷ []) ≡ infos_of stored ++ info_of info ∷ []
infos_of-push [] info = refl
infos_of-push (x ∷ xs) info = ap (λ v. info_of x ∷ v) (infos_of-push xs info)

longer : (stored : List FunctionInfo) (info : FunctionInfo) → length (stored ++ info ∷ []) ≡ length stored + 1
longer stored info = length-append stored (info ∷ [])

-- an error that reports one of some causes reports one of more causes
pub named_more : (P Q : Cause → Type 0) → ((cause : Cause) → P cause → Q cause) → (failure : FunctionError) → IsNamed P failure →
    IsNamed Q failure
named_more P Q more (error.Expression e (expression.Resolve failure)) h = more _ h
named_more P Q more (error.Expression e (expression.MissingCapabilities wanted)) h = (h.0, h.1, more _ h.2)
named_more P Q more (error.Expression e expression.ExpectedGlobalOrArgument) h = more _ h
named_more P Q more (error.Expression e expression.BindingArrayElement) h = more _ h
named_more P Q more (error.NonUniformControlFlow needs e flow_disruptor) h = (h.0, more _ h.1)
named_more P Q more (error.CountFull e) h = more _ h
named_more P Q more error.OutOfMemory h = tt

module _ (m : Module) (settings : Settings) (well : IsWellFormed m) (stored : List FunctionInfo) (before :
    FunctionsAnalyzed m settings stored)
    (f : Function)
    (earlier : NamesEarlier (length stored) f) where
  count : length (infos_of stored) ≡ length stored
  count = length-map stored info_of

  named : EachNamed (IsExact m) m (infos_of stored) f
  named = named_within m (infos_of stored) f (λ c mention. let lt = earlier c mention in
      (omega (arith, lt, count), omega (arith, lt, before.stored.there))) before.exact

  -- a fault by the infos is an interprocedural fault
  fault_is : (cause : Cause) → StepFault m (infos_of stored) f settings cause → IsFault m f settings cause
  fault_is = (faults_agree m (infos_of stored) f settings named).0

  no_fault : ((cause : Cause) → StepFault m (infos_of stored) f settings cause → ⊥) → (cause : Cause) → IsFault m f settings cause → ⊥
  no_fault none cause h = let reported = (faults_agree m (infos_of stored) f settings named).1 cause h in none reported.0 reported.2

-- no global expression is without a type
no_untyped : (m : Module) (types : List TypeResolution) → AreTypes (context_of m [] []) m.global_expressions types →
    (e : ℕ) (refusal : Refusal) →
    IsRefused (context_of m [] []) m.global_expressions e refusal → ⊥
no_untyped m types are e refusal h =
    let lt : e < length types = omega (arith, are.complete, slice_get_within m.global_expressions e h.expression h.is_there) in
    let t = found_at types e lt in
    (types_are_unique (context_of m [] []) m.global_expressions e t.0 (are.derived e t.0 t.1)).1 refusal h

module _ (m : Module) (settings : Settings) (well : IsWellFormed m) (types : List TypeResolution)
    (are : AreTypes (context_of m [] []) m.global_expressions types)
    (stored : List FunctionInfo) (before : FunctionsAnalyzed m settings stored) where
  module _ (f : Function) (is_f : slice_get m.functions (length stored) ≡ Some f) where
    ordered : NamesEarlier (length stored) f
    ordered = (point_backwards m well).functions (length stored) f is_f

    pub next_function : (info : FunctionInfo) → MeetsSteps m (infos_of stored) f (info_of info) →
        HaveArguments info.sampling.keys → IsUnrestricted info → Fits m f info →
        ((cause : Cause) → StepFault m (infos_of stored) f settings cause → ⊥) → FunctionsAnalyzed m settings (stored ++ info ∷ [])
    next_function info steps apart unrestricted fits none =
        let is_next : slice_get m.functions (length (infos_of stored)) ≡ Some f =
        ap (slice_get m.functions) (length-map stored info_of) ∙ is_f in
        let done = next_is_exact m (infos_of stored) f (info_of info) (point_backwards m well).functions is_next before.exact steps in
        let P : List Info → Type 0 = λ v. Pairwise (IsExact m) m v in
        record {
          stored = record {
            there = omega (arith, longer stored info, slice_get_within m.functions (length stored) f is_f);
            fit = λ c r i is_r is_i. one_more (λ e x. (g : Function) → slice_get m.functions e ≡ Some g → Fits m g x) stored info
                (λ e x is_x g is_g. before.stored.fit e g x is_g is_x)
                (λ g is_g. subst (λ x. Fits m x info) (same_Some f g (sym is_f ∙ is_g)) fits) c i is_i r is_r;
          };
          exact = subst P (sym (infos_of-push stored info)) done;
          apart = one_more (λ e x. HaveArguments x.sampling.keys) stored info before.apart apart;
          unrestricted = one_more (λ e x. IsUnrestricted x) stored info before.unrestricted unrestricted;
          clean = λ i g cause lt is_g. up_to_here (λ e. (g : Function) (cause : Cause) → slice_get m.functions e ≡ Some g →
              IsFault m g settings cause → ⊥) (length stored)
              (λ e early g cause is_g. before.clean e g cause early is_g)
              (λ g cause is_g. subst (λ x. IsFault m x settings cause →
              ⊥) (same_Some f g (sym is_f ∙ is_g)) (no_fault m settings well stored before f ordered none cause))
              i (omega (arith, lt, longer stored info)) g cause is_g;
        }

    pub function_reached : IsReached m settings (OfFunction (length stored))
    function_reached = record { there = slice_get_within m.functions (length stored) f is_f; clean = none } where
      none : (other : Site) (reported : Cause) → ComesBefore other (OfFunction (length stored)) → ModuleFault m settings other reported → ⊥
      none (OfGlobalExpression e) reported lt (in_expression {refusal = refusal} r) = no_untyped m types are e refusal r
      none (OfFunction j) reported lt (in_function {f = g} is_g fault) = before.clean j g reported lt is_g fault
      none (OfEntryPoint j) reported lt fault = lt

    -- a fault of the next function is the first
    pub first_in_function : (cause : Cause) → StepFault m (infos_of stored) f settings cause →
        IsFirstFault m settings (OfFunction (length stored)) cause
    first_in_function cause h = record {
      is_there = in_function is_f (fault_is m settings well stored before f ordered cause h);
      first = function_reached.clean;
    }

  module _ (all : length stored ≡ length m.functions) (done : List FunctionInfo) (entries : EntryPointsAnalyzed m settings done)
      (entry : EntryPoint)
      (is_entry : slice_get m.entry_points (length done) ≡ Some entry) where
    names_functions : NamesEarlier (length stored) entry.function
    names_functions c mention = omega (arith, all, (point_backwards m well).entry_points (length done) entry is_entry c mention)

    pub next_entry_point : (info : FunctionInfo) → MeetsSteps m (infos_of stored) entry.function (info_of info) →
        HaveArguments info.sampling.keys → IsUnrestricted info → Fits m entry.function info →
        ((cause : Cause) → StepFault m (infos_of stored) entry.function settings cause → ⊥) →
        EntryPointsAnalyzed m settings (done ++ info ∷ [])
    next_entry_point info steps apart unrestricted fits none =
        let exact : IsExact m entry.function (info_of info) =
        entry_is_exact m (infos_of stored) entry.function (info_of info) (length-map stored info_of ∙ all)
        ((point_backwards m well).entry_points (length done) entry is_entry) before.exact steps in
        record {
          there = omega (arith, longer done info, slice_get_within m.entry_points (length done) entry is_entry);
          fit = λ i other at is_other is_at. one_more (λ e x. (other : EntryPoint) → slice_get m.entry_points e ≡ Some other →
              Fits m other.function x) done info
              (λ e x is_x other is_o. entries.fit e other x is_o is_x)
              (λ other is_o. subst (λ (x : EntryPoint). Fits m x.function info) (same_Some entry other (sym is_entry ∙ is_o)) fits)
              i at is_at other is_other;
          exact = λ i other at is_other is_at. one_more (λ e x. (other : EntryPoint) → slice_get m.entry_points e ≡ Some other →
              IsExact m other.function (info_of x)) done info
              (λ e x is_x other is_o. entries.exact e other x is_o is_x)
              (λ other is_o. subst (λ (x : EntryPoint). IsExact m x.function (info_of info)) (same_Some entry other (sym is_entry ∙ is_o))
              exact) i at is_at other is_other;
          apart = one_more (λ e x. HaveArguments x.sampling.keys) done info entries.apart apart;
          unrestricted = one_more (λ e x. IsUnrestricted x) done info entries.unrestricted unrestricted;
          clean = λ i other cause lt is_other. up_to_here
              (λ e. (other : EntryPoint) (cause : Cause) → slice_get m.entry_points e ≡ Some other →
              IsFault m other.function settings cause → ⊥) (length done)
              (λ e early other cause is_o. entries.clean e other cause early is_o)
              (λ other cause is_o. subst (λ (x : EntryPoint). IsFault m x.function settings cause →
              ⊥) (same_Some entry other (sym is_entry ∙ is_o))
              (no_fault m settings well stored before entry.function names_functions none cause))
              i (omega (arith, lt, longer done info)) other cause is_other;
        }

    pub entry_point_reached : IsReached m settings (OfEntryPoint (length done))
    entry_point_reached = record { there = slice_get_within m.entry_points (length done) entry is_entry; clean = none } where
      none : (other : Site) (reported : Cause) → ComesBefore other (OfEntryPoint (length done)) → ModuleFault m settings other reported → ⊥
      none (OfGlobalExpression e) reported lt (in_expression {refusal = refusal} r) = no_untyped m types are e refusal r
      none (OfFunction j) reported lt (in_function {f = g} is_g fault) =
          before.clean j g reported (omega (arith, all, slice_get_within m.functions j g is_g)) is_g fault
      none (OfEntryPoint j) reported lt (in_entry_point {entry = g} is_g fault) = entries.clean j g reported lt is_g fault

    pub first_in_entry_point : (cause : Cause) → StepFault m (infos_of stored) entry.function settings cause →
        IsFirstFault m settings (OfEntryPoint (length done)) cause
    first_in_entry_point cause h = record {
      is_there = in_entry_point is_entry (fault_is m settings well stored before entry.function names_functions cause h);
      first = entry_point_reached.clean;
    }

  -- if all are analysed, there is no fault
  module _ (all : length stored ≡ length m.functions) (done : List FunctionInfo) (entries : EntryPointsAnalyzed m settings done)
      (last : length done ≡ length m.entry_points) where
    pub accepted : IsAccepted m settings
    accepted (OfGlobalExpression e) cause (in_expression {refusal = refusal} r) = no_untyped m types are e refusal r
    accepted (OfFunction j) cause (in_function {f = g} is_g fault) =
        before.clean j g cause (omega (arith, all, slice_get_within m.functions j g is_g)) is_g fault
    accepted (OfEntryPoint j) cause (in_entry_point {entry = g} is_g fault) =
        entries.clean j g cause (omega (arith, last, slice_get_within m.entry_points j g is_g)) is_g fault

    pub exact_module : IsExactModule m types (infos_of stored) (infos_of done)
    exact_module = record {
      types = are;
      each_function = length-map stored info_of ∙ all;
      exact_functions = before.exact;
      each_entry_point = length-map done info_of ∙ last;
      exact_entry_points = λ i entry info is_entry is_info.
          let raw = of_stored done i info is_info in
          subst (λ x. IsExact m entry.function x) raw.2 (entries.exact i entry raw.0 is_entry raw.1);
    }
