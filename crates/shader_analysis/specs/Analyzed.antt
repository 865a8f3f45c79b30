-- The progress of the analysis of a module.
use Rattle.std.specs.Prelude.{◌≡◌, ℕ, ◌<◌, ◌≤◌, All, List, [], Some, slice_get, length}
use Rattle.shader_analysis_spec.specs.Exact.{IsExact}
use Rattle.shader_analysis_spec.specs.Faults.{Cause, IsFault, Settings}
use Rattle.shader_analysis_spec.specs.Infos.{Pairwise}
use Rattle.shader_analysis_spec.specs.Program.{Function, Module}
use Rattle.shader_info.specs.Fit.{Fits}
use Rattle.shader_info.specs.declared.info.FunctionInfo.{FunctionInfo}
use Rattle.shader_ir.specs.Key.{FitsTypes}
use Rattle.shader_ir.specs.declared.function.EntryPoint.{EntryPoint}
use Rattle.shader_ir.specs.declared.proc.type_resolution.TypeResolution.{TypeResolution}
use Rattle.shader_resolve.specs.Context.{context_of}
use Rattle.shader_passes.specs.InfoOf.{info_of, infos_of}
use Rattle.shader_passes.specs.RecordedPairs.{HaveArguments}
use Rattle.shader_expression_types.specs.Typed.{AreOfTheFirst}
use Rattle.shader_analysis.specs.Analyzable.{AreStored}
use Rattle.shader_analysis.specs.Fitting.{IsUnrestricted}

-- the types are those of the first global expressions
pub record TypesComputed (m : Module) (types : List TypeResolution) : Type 0 where
  pub there : length types ≤ length m.global_expressions
  pub derived : AreOfTheFirst (context_of m [] []) m.global_expressions types
  pub fit : All (FitsTypes m.types) types

-- the infos are exact for the first functions, keep pairs of two globals apart and restrict nothing, and these functions have no fault
pub record FunctionsAnalyzed (m : Module) (settings : Settings) (functions : List FunctionInfo) : Type 0 where
  pub stored : AreStored m functions
  pub exact : Pairwise (IsExact m) m (infos_of functions)
  pub apart : (i : ℕ) (info : FunctionInfo) → slice_get functions i ≡ Some info → HaveArguments info.sampling.keys
  pub unrestricted : (i : ℕ) (info : FunctionInfo) → slice_get functions i ≡ Some info → IsUnrestricted info
  pub clean : (i : ℕ) (f : Function) (cause : Cause) → i < length functions → slice_get m.functions i ≡ Some f →
      IsFault m f settings cause → ⊥

-- the infos are exact for the first entry points, fit them, keep pairs of two globals apart and restrict nothing, and these have no fault
pub record EntryPointsAnalyzed (m : Module) (settings : Settings) (entry_points : List FunctionInfo) : Type 0 where
  pub there : length entry_points ≤ length m.entry_points
  pub fit : (i : ℕ) (entry : EntryPoint) (info : FunctionInfo) → slice_get m.entry_points i ≡ Some entry →
      slice_get entry_points i ≡ Some info →
      Fits m entry.function info
  pub exact : (i : ℕ) (entry : EntryPoint) (info : FunctionInfo) → slice_get m.entry_points i ≡ Some entry →
      slice_get entry_points i ≡ Some info →
      IsExact m entry.function (info_of info)
  pub apart : (i : ℕ) (info : FunctionInfo) → slice_get entry_points i ≡ Some info → HaveArguments info.sampling.keys
  pub unrestricted : (i : ℕ) (info : FunctionInfo) → slice_get entry_points i ≡ Some info → IsUnrestricted info
  pub clean : (i : ℕ) (entry : EntryPoint) (cause : Cause) → i < length entry_points → slice_get m.entry_points i ≡ Some entry →
      IsFault m entry.function settings cause → ⊥
