-- Equal records and errors: sets are compared by their members, texts byte by byte.
use Rattle.std.specs.Prelude.{◌≡◌, ℕ, List, Some, length, slice_get}
use Rattle.shader_analysis.specs.Recorded.{Recorded}
use Rattle.shader_analysis.specs.declared.valid.validation.ValidationError.{ValidationError}
use Rattle.shader_analysis.specs.declared.valid.validation.ValidationError.TheVariants.{Analysis}
use Rattle.shader_info.specs.Copies.{HasText, SameAnalysisError}
use Rattle.shader_info.specs.Recorded.{SameInfo}
use Rattle.shader_info.specs.declared.info.FunctionInfo.{FunctionInfo}

-- the infos record the same, each at its position
pub record SameInfos (infos copies : List FunctionInfo) : Type 0 where
  pub as_many : length copies ≡ length infos
  pub each : (i : ℕ) (copy info : FunctionInfo) → slice_get copies i ≡ Some copy → slice_get infos i ≡ Some info → SameInfo info copy

pub record SameRecord (old copy : Recorded) : Type 0 where
  pub functions : SameInfos old.functions copy.functions
  pub entry_points : SameInfos old.entry_points copy.entry_points
  pub global_expressions : copy.global_expressions ≡ old.global_expressions

abbrev pub SameValidationError : ValidationError → ValidationError → Type 0
SameValidationError (Analysis error) (Analysis copy) = SameAnalysisError error copy
SameValidationError error copy = copy ≡ error

-- the error has a text
abbrev pub ReasonHasText : ValidationError → Type 0
ReasonHasText (Analysis error) = HasText error.cause
ReasonHasText _ = ⊥
