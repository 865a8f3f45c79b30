-- Properties that the recorded infos of all functions share.
use Rattle.std.specs.Prelude.{◌≡◌, false}
use Rattle.shader_analysis_spec.specs.Program.{Function, Module}
use Rattle.shader_info.specs.Fit.{Fits}
use Rattle.shader_info.specs.declared.error.AnalysisLocation.{AnalysisLocation}
use Rattle.shader_info.specs.declared.info.FunctionInfo.{FunctionInfo}
use Rattle.shader_analysis.specs.Processed.{IsFunctionAt, IsInfoAt}
use Rattle.shader_analysis.specs.Recorded.{Recorded}

-- the function may run at each of the five stages and has no dual-source blending
pub record IsUnrestricted (info : FunctionInfo) : Type 0 where
  pub stages : info.available_stages.0 ≡ 31
  pub one_source : info.dual_source_blending ≡ false

-- each recorded info is one of its function
abbrev pub AllFit : Module → Recorded → Type 0
AllFit m recorded = (at : AnalysisLocation) (f : Function) (info : FunctionInfo) →
    IsFunctionAt m at f → IsInfoAt recorded at info → Fits m f info

abbrev pub AllUnrestricted : Recorded → Type 0
AllUnrestricted recorded = (at : AnalysisLocation) (info : FunctionInfo) → IsInfoAt recorded at info → IsUnrestricted info
