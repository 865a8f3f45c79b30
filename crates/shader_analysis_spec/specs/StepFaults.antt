-- The faults of a function by the stored infos of the functions before it, as one step of the analysis finds them.
use Rattle.std.specs.Prelude.{◌≡◌, ℕ, List, Some, slice_get}
use Rattle.std.specs.List.{Contains}
use Rattle.shader_analysis_spec.specs.Faults.{Cause, HasFault, Settings}
use Rattle.shader_analysis_spec.specs.Infos.{Info, Resource}
use Rattle.shader_analysis_spec.specs.Program.{Function, Module}
use Rattle.shader_analysis_spec.specs.Steps.{StepOrigin, RecordsKills, StepExpressionNeed}

-- the info of the function at position c records that it samples p with q
abbrev pub RecordsPair : List Info → ℕ → Resource → Resource → Type 0
RecordsPair infos c p q = (info : Info) × (slice_get infos c ≡ Some info) × Contains info.pairs (p, q)

-- a fault of f, by the stored infos of the functions before it
abbrev pub StepFault : Module → List Info → Function → Settings → Cause → Type 0
StepFault m infos f settings = HasFault (StepOrigin m infos f) (RecordsKills infos) (StepExpressionNeed infos f)
    (RecordsPair infos) m settings f
