-- The sets of an info that hold the pairs.
use Rattle.std.specs.Prelude.{◌↔◌, ℕ, Contains}
use Rattle.shader_analysis_spec.specs.Infos.{InGlobal}
use Rattle.shader_analysis_spec.specs.Pairs.{IsPair}
use Rattle.shader_analysis_spec.specs.Program.{Function, Module}
use Rattle.shader_info.specs.Recorded.{IsSampled}
use Rattle.shader_info.specs.declared.error.AnalysisLocation.{AnalysisLocation}
use Rattle.shader_info.specs.declared.info.FunctionInfo.{FunctionInfo}
use Rattle.shader_info.specs.declared.info.GlobalOrArgument.{GlobalOrArgument}
use Rattle.shader_passes.specs.RecordedPairs.{HasArgument, resource_view}
use Rattle.shader_analysis.specs.Processed.{IsFunctionAt, IsInfoAt}
use Rattle.shader_analysis.specs.Recorded.{Recorded}

-- `sampling_set` holds exactly the function's pairs of two globals, and `sampling` exactly those with an argument
pub record RecordsPairs (m : Module) (f : Function) (info : FunctionInfo) : Type 0 where
  pub of_globals : (image sampler : ℕ) →
      Contains info.sampling_set.keys (record { image = image; sampler = sampler }) ↔ IsPair m f (InGlobal image) (InGlobal sampler)
  pub with_arguments : (image sampler : GlobalOrArgument) →
      IsSampled info image sampler
      ↔ (HasArgument (resource_view image) (resource_view sampler) × IsPair m f (resource_view image) (resource_view sampler))

-- each info of a function or an entry point keeps its pairs so
abbrev pub RecordsAllPairs : Module → Recorded → Type 0
RecordsAllPairs m recorded = (at : AnalysisLocation) (f : Function) (info : FunctionInfo) →
    IsFunctionAt m at f → IsInfoAt recorded at info → RecordsPairs m f info
