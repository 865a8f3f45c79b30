-- The next function or entry point is analysed over the infos recorded before it.
use Rattle.std.proofs.Common.{◌≡◌, refl, sym, ap, subst, ◌∙◌, ℕ, ◌<◌, List, [], ◌∷◌, ◌++◌, Some, slice_get, length, take, arith}
use Rattle.std.proofs.Math.Seq.{take-length}
use Rattle.shader_analysis_spec.specs.Derivable.{AreTypes}
use Rattle.shader_analysis_spec.specs.Faults.{Cause, IsAccepted, IsFirstFault, OfEntryPoint, OfFunction, Settings}
use Rattle.shader_analysis_spec.specs.StepFaults.{StepFault}
use Rattle.shader_analysis_spec.specs.Exact.{IsExactModule}
use Rattle.shader_analysis_spec.specs.Program.{Function, Module}
use Rattle.shader_analysis_spec.specs.Steps.{MeetsSteps}
use Rattle.shader_info.specs.Fit.{Fits}
use Rattle.shader_info.specs.declared.error.AnalysisLocation.{AnalysisLocation}
use Rattle.shader_info.specs.declared.error.AnalysisLocation.TheVariants as site
use Rattle.shader_info.specs.declared.error.FunctionError.{FunctionError}
use Rattle.shader_info.specs.declared.info.FunctionInfo.{FunctionInfo}
use Rattle.shader_ir.specs.declared.function.EntryPoint.{EntryPoint}
use Rattle.shader_resolve.specs.Context.{context_of}
use Rattle.shader_resolve.specs.WellFormed.{IsWellFormed}
use Rattle.shader_passes.specs.Causes.{IsNamed}
use Rattle.shader_passes.specs.InfoOf.{info_of, infos_of}
use Rattle.shader_passes.specs.RecordedPairs.{HaveArguments}
use Rattle.shader_analysis.proofs.RefusalLemmas.{accepted, entry_point_reached, exact_module, first_in_entry_point, first_in_function}
use Rattle.shader_analysis.proofs.RefusalLemmas.{function_reached, named_more, next_entry_point, next_function}
use Rattle.shader_analysis.proofs.RetainedLemmas.{all_fit, all_unrestricted, records_all_pairs}
use Rattle.shader_analysis.proofs.PositionLemmas.{found_at}
use Rattle.shader_analysis.specs.Analyzable.{AreStored}
use Rattle.shader_analysis.specs.Analyzed.{EntryPointsAnalyzed, FunctionsAnalyzed}
use Rattle.shader_analysis.specs.Fitting.{AllFit, AllUnrestricted, IsUnrestricted}
use Rattle.shader_analysis.specs.Growth.{AddsNext}
use Rattle.shader_analysis.specs.Recording.{RecordsAllPairs}
use Rattle.shader_analysis.specs.Processed.{CanProcess, IsFunctionAt, functions_before, infos_before}
use Rattle.shader_analysis.specs.Reached.{IsReached}
use Rattle.shader_analysis.specs.Recorded.{Recorded}

all_of : {X : Type 0} (xs : List X) (n : ℕ) → n ≡ length xs → take n xs ≡ xs
all_of xs n is = ap (λ v. take v xs) is ∙ take-length xs

module _ (m : Module) (settings : Settings) (well : IsWellFormed m) (recorded : Recorded)
    (are : AreTypes (context_of m [] []) m.global_expressions recorded.global_expressions)
    (before : FunctionsAnalyzed m settings recorded.functions) where
  can_process : (at : AnalysisLocation) (f : Function) → IsFunctionAt m at f → functions_before m at ≡ length recorded.functions →
      CanProcess m recorded at
  can_process at f is_f all = record {
    function = (f, is_f);
    before = omega (arith, all);
    stored = subst (AreStored m) (sym (all_of recorded.functions (functions_before m at) all)) before.stored;
  }

  -- a property of the infos before a location holds of the recorded infos
  over_all : (P : List FunctionInfo → Type 0) (at : AnalysisLocation) → functions_before m at ≡ length recorded.functions →
      P (infos_before m recorded at) → P recorded.functions
  over_all P at all reported = subst P (all_of recorded.functions (functions_before m at) all) reported

  module _ (there : length recorded.functions < length m.functions) where
    the_function : (f : Function) × (slice_get m.functions (length recorded.functions) ≡ Some f)
    the_function = found_at m.functions (length recorded.functions) there

    pub function_added : (more : Recorded) → AddsNext m settings recorded more → FunctionsAnalyzed m settings more.functions
    function_added more adds =
        let (f, is_f) = the_function in
        subst (λ (v : Recorded). FunctionsAnalyzed m settings v.functions) (sym adds.added)
        (next_function m settings well recorded.global_expressions are recorded.functions before f is_f adds.info (adds.steps f is_f)
        adds.with_arguments adds.unrestricted (adds.fits f is_f) (λ cause. adds.clean f cause is_f))

    pub function_is_reached : IsReached m settings (OfFunction (length recorded.functions))
    function_is_reached =
        function_reached m settings well recorded.global_expressions are recorded.functions before the_function.0 the_function.1

    pub function_refused : (failure : FunctionError) →
        ((f : Function) → slice_get m.functions (length recorded.functions) ≡ Some f →
        IsNamed (StepFault m (infos_of recorded.functions) f settings) failure) →
        IsNamed (IsFirstFault m settings (OfFunction (length recorded.functions))) failure
    function_refused failure reported =
        let (f, is_f) = the_function in
        named_more (StepFault m (infos_of recorded.functions) f settings)
        (IsFirstFault m settings (OfFunction (length recorded.functions)))
        (first_in_function m settings well recorded.global_expressions are recorded.functions before f is_f) failure (reported f is_f)

  module _ (all : length recorded.functions ≡ length m.functions) (entries : EntryPointsAnalyzed m settings recorded.entry_points) (i : ℕ)
      (next : i ≡ length recorded.entry_points) (there : i < length m.entry_points) where
    the_entry : (entry : EntryPoint) × (slice_get m.entry_points i ≡ Some entry)
    the_entry = found_at m.entry_points i there

    is_next_entry : slice_get m.entry_points (length recorded.entry_points) ≡ Some the_entry.0
    is_next_entry = ap (slice_get m.entry_points) (sym next) ∙ the_entry.1

    at_entry : IsFunctionAt m (site.EntryPoint i) the_entry.0.function
    at_entry = (the_entry.0, the_entry.1, refl)

    pub can_process_entry_point : CanProcess m recorded (site.EntryPoint i)
    can_process_entry_point = can_process (site.EntryPoint i) the_entry.0.function at_entry (sym all)

    pub entry_point_found : (info : FunctionInfo) →
        ((f : Function) → IsFunctionAt m (site.EntryPoint i) f →
        MeetsSteps m (infos_of (infos_before m recorded (site.EntryPoint i))) f (info_of info)) →
        HaveArguments info.sampling.keys → IsUnrestricted info → ((f : Function) → IsFunctionAt m (site.EntryPoint i) f → Fits m f info) →
        ((f : Function) (cause : Cause) → IsFunctionAt m (site.EntryPoint i) f →
        StepFault m (infos_of (infos_before m recorded (site.EntryPoint i))) f settings cause → ⊥) →
        (entry_points : List FunctionInfo) → entry_points ≡ recorded.entry_points ++ info ∷ [] → EntryPointsAnalyzed m settings entry_points
    entry_point_found info steps apart unrestricted fits clean entry_points are_now =
        let f = the_entry.0.function in
        let now : MeetsSteps m (infos_of recorded.functions) f (info_of info) =
        over_all (λ v. MeetsSteps m (infos_of v) f (info_of info)) (site.EntryPoint i) (sym all) (steps f at_entry) in
        let none : (cause : Cause) → StepFault m (infos_of recorded.functions) f settings cause → ⊥ =
        over_all (λ v. (cause : Cause) → StepFault m (infos_of v) f settings cause →
        ⊥) (site.EntryPoint i) (sym all) (λ cause. clean f cause at_entry) in
        subst (EntryPointsAnalyzed m settings) (sym are_now)
        (next_entry_point m settings well recorded.global_expressions are recorded.functions before all recorded.entry_points entries
        the_entry.0 is_next_entry info now apart unrestricted (fits f at_entry) none)

    pub entry_point_is_reached : IsReached m settings (OfEntryPoint i)
    entry_point_is_reached = subst (λ v. IsReached m settings (OfEntryPoint v)) (sym next)
        (entry_point_reached m settings well recorded.global_expressions are recorded.functions before all recorded.entry_points entries
        the_entry.0 is_next_entry)

    pub entry_point_refused : (failure : FunctionError) →
        ((f : Function) → IsFunctionAt m (site.EntryPoint i) f →
        IsNamed (StepFault m (infos_of (infos_before m recorded (site.EntryPoint i))) f settings) failure) →
        IsNamed (IsFirstFault m settings (OfEntryPoint i)) failure
    entry_point_refused failure reported =
        let f = the_entry.0.function in
        let fault : IsNamed (StepFault m (infos_of recorded.functions) f settings) failure =
        over_all (λ v. IsNamed (StepFault m (infos_of v) f settings) failure) (site.EntryPoint i) (sym all) (reported f at_entry) in
        subst (λ v. IsNamed (IsFirstFault m settings (OfEntryPoint v)) failure) (sym next)
        (named_more (StepFault m (infos_of recorded.functions) f settings)
        (IsFirstFault m settings (OfEntryPoint (length recorded.entry_points)))
        (first_in_entry_point m settings well recorded.global_expressions are recorded.functions before all recorded.entry_points entries
        the_entry.0 is_next_entry) failure fault)

-- the state before the first function, and before the first entry point
pub no_functions : (m : Module) (settings : Settings) (functions : List FunctionInfo) → functions ≡ [] →
    FunctionsAnalyzed m settings functions
no_functions m settings functions none = subst (FunctionsAnalyzed m settings) (sym none) (record {
  stored = record { there = omega arith; fit = λ c r info is_r is_info. absurd (cc) };
  exact = λ i f info is_f is_info. absurd (cc);
  apart = λ i info is_info. absurd (cc);
  unrestricted = λ i info is_info. absurd (cc);
  clean = λ i f cause lt is_f fault. absurd (omega (arith, lt));
})

pub no_entry_points : (m : Module) (settings : Settings) (entry_points : List FunctionInfo) → entry_points ≡ [] →
    EntryPointsAnalyzed m settings entry_points
no_entry_points m settings entry_points none = subst (EntryPointsAnalyzed m settings) (sym none) (record {
  there = omega arith;
  fit = λ i entry info is_entry is_info. absurd (cc);
  exact = λ i entry info is_entry is_info. absurd (cc);
  apart = λ i info is_info. absurd (cc);
  unrestricted = λ i info is_info. absurd (cc);
  clean = λ i entry cause lt is_entry fault. absurd (omega (arith, lt));
})

-- the state after the last of each
pub all_found : (m : Module) (settings : Settings) → IsWellFormed m → (typed with_functions last : Recorded) →
    AreTypes (context_of m [] []) m.global_expressions typed.global_expressions →
    with_functions ≡ record typed { functions = with_functions.functions } → length with_functions.functions ≡ length m.functions →
    FunctionsAnalyzed m settings with_functions.functions →
    last ≡ record with_functions { entry_points = last.entry_points } → length last.entry_points ≡ length m.entry_points →
    EntryPointsAnalyzed m settings last.entry_points →
    IsExactModule m last.global_expressions (infos_of last.functions) (infos_of last.entry_points) × RecordsAllPairs m last ×
    IsAccepted m settings × AllFit m last × AllUnrestricted last
all_found m settings well typed with_functions last are is_next all found is_last all_entries entries =
    let types : last.global_expressions ≡ typed.global_expressions =
    ap (λ (v : Recorded). v.global_expressions) is_last ∙ ap (λ (v : Recorded). v.global_expressions) is_next in
    let same : last.functions ≡ with_functions.functions = ap (λ (v : Recorded). v.functions) is_last in
    let now = subst (λ v. AreTypes (context_of m [] []) m.global_expressions v) (sym types) are in
    let stored = subst (FunctionsAnalyzed m settings) (sym same) found in
    let long : length last.functions ≡ length m.functions = ap length same ∙ all in (
      exact_module m settings well last.global_expressions now last.functions stored long last.entry_points entries all_entries,
      records_all_pairs m settings last stored entries,
      accepted m settings well last.global_expressions now last.functions stored long last.entry_points entries all_entries,
      all_fit m settings last stored entries,
      all_unrestricted m settings last stored entries,
    )
