-- Analysis function by function: what may be processed next, and that stored infos stay so.
use Rattle.std.specs.Prelude.{◌≡◌, ℕ, ◌<◌, [], ◌∷◌, ◌++◌, List, Some, length, slice_get}
use Rattle.shader_analysis.specs.Analyzable.{AreStored}
use Rattle.shader_analysis.specs.Fitting.{IsUnrestricted}
use Rattle.shader_analysis.specs.Processed.{CanProcess}
use Rattle.shader_analysis.specs.Recorded.{Recorded}
use Rattle.shader_analysis_spec.specs.Faults.{Cause, Settings}
use Rattle.shader_analysis_spec.specs.Program.{Function, Module}
use Rattle.shader_analysis_spec.specs.StepFaults.{StepFault}
use Rattle.shader_analysis_spec.specs.Steps.{MeetsSteps}
use Rattle.shader_info.specs.Fit.{Fits}
use Rattle.shader_info.specs.declared.error.AnalysisLocation.TheVariants as location
use Rattle.shader_info.specs.declared.info.FunctionInfo.{FunctionInfo}
use Rattle.shader_passes.specs.InfoOf.{info_of, infos_of}
use Rattle.shader_passes.specs.RecordedPairs.{HaveArguments}

-- over the infos of the functions before it, a function can be processed
abbrev pub NextCanBeProcessed : Type 0
NextCanBeProcessed = (m : Module) (recorded : Recorded) (i : ℕ) → i ≡ length recorded.functions → i < length m.functions →
    AreStored m recorded.functions → CanProcess m recorded (location.Function i)

-- over the infos of all functions, an entry point can be processed
abbrev pub EntryCanBeProcessed : Type 0
EntryCanBeProcessed = (m : Module) (recorded : Recorded) (i : ℕ) → length recorded.functions ≡ length m.functions →
    i < length m.entry_points → AreStored m recorded.functions → CanProcess m recorded (location.EntryPoint i)

-- stored infos, and one more that fits the next function, are stored infos
abbrev pub InfosGrow : Type 0
InfosGrow = (m : Module) (infos : List FunctionInfo) (f : Function) (info : FunctionInfo) → AreStored m infos →
    slice_get m.functions (length infos) ≡ Some f → Fits m f info → AreStored m (infos ++ info ∷ [])

-- one info is added, that of the next function, which has no fault by the infos before it: the info meets the function's step equations
-- over those, fits the function, keeps pairs of two globals apart and restricts nothing
pub record AddsNext (m : Module) (settings : Settings) (old new : Recorded) : Type 0 where
  pub info : FunctionInfo
  pub added : new ≡ record old { functions = old.functions ++ info ∷ [] }
  pub steps : (f : Function) → slice_get m.functions (length old.functions) ≡ Some f →
      MeetsSteps m (infos_of old.functions) f (info_of info)
  pub fits : (f : Function) → slice_get m.functions (length old.functions) ≡ Some f → Fits m f info
  pub with_arguments : HaveArguments info.sampling.keys
  pub unrestricted : IsUnrestricted info
  pub clean : (f : Function) (cause : Cause) → slice_get m.functions (length old.functions) ≡ Some f →
      StepFault m (infos_of old.functions) f settings cause → ⊥

-- no infos are stored infos
abbrev pub NoneAreStored : Type 0
NoneAreStored = (m : Module) → AreStored m []
