-- Agreement of rejections by the passes over one function with its faults by the stored infos.
use Rattle.std.specs.Prelude.{◌≡◌, ℕ, ◌<◌, ◌≤◌, ◌^◌, Bool, List, Option, Some, None, fold, length}
use Rattle.std.specs.List.{enumerate_from}
use Rattle.shader_analysis_spec.specs.Counts.{count_of}
use Rattle.shader_analysis_spec.specs.Faults.{Cause, CountFull, NoResource, Disruptor, IsFlowViolation, Settings}
use Rattle.shader_analysis_spec.specs.StepFaults.{RecordsPair, StepFault}
use Rattle.shader_analysis_spec.specs.Needs.{Need, has_need}
use Rattle.shader_analysis_spec.specs.Program.{Function, Module, statements}
use Rattle.shader_analysis_spec.specs.Steps.{RecordsKills, StepExpressionNeed, StepOrigin}
use Rattle.shader_info.specs.declared.info.FunctionInfo.{FunctionInfo}
use Rattle.shader_resolve.specs.WellFormed.{FunctionInRange}
use Rattle.shader_passes.specs.Causes.{disruptor_of}
use Rattle.shader_passes.specs.Results.{computed_facts}
use Rattle.shader_passes.specs.declared.flow.FlowViolation.{FlowViolation}
use Rattle.shader_passes.specs.Ends.{block_fault, is_killing}
use Rattle.shader_passes.specs.Facts.{origin_at}
use Rattle.shader_passes.specs.InfoOf.{PointsBackwards, infos_of}
use Rattle.shader_passes.specs.MissingResource.{call_missed, sample_missed}

-- an expression for which the pass finds no resource
abbrev pub computed_missing : List FunctionInfo → Function → Option ℕ
computed_missing infos f = fold (call_missed infos f) (fold (sample_missed f) None (enumerate_from 0 f.expressions)) (statements f.body)

-- the first violation of uniform control flow
abbrev pub computed_violation : Module → List FunctionInfo → Function → Option FlowViolation
computed_violation m infos f = block_fault (origin_at (computed_facts m infos f)) (is_killing infos) (computed_facts m infos f) None f.body

module _ (m : Module) (infos : List FunctionInfo) (f : Function) (settings : Settings) where
  -- a fault of f, by the stored infos
  abbrev pub StoredFault : Cause → Type 0
  StoredFault cause = StepFault m (infos_of infos) f settings cause

  -- a violation by an expression with these needs, with a disruptor, by the stored infos
  abbrev pub IsComputedViolation : (needs : Need → Bool) (expression : ℕ) → Disruptor → Type 0
  IsComputedViolation needs e disruptor =
      IsFlowViolation (StepOrigin m (infos_of infos) f) (RecordsKills (infos_of infos)) (StepExpressionNeed (infos_of infos) f)
      (RecordsPair (infos_of infos)) m settings f needs e disruptor

abbrev pub MissingResourcesAreFaults : Type 0
MissingResourcesAreFaults = (m : Module) (infos : List FunctionInfo) (f : Function) (settings : Settings) →
    ((e : ℕ) → computed_missing infos f ≡ Some e → StoredFault m infos f settings (NoResource e))
    × (computed_missing infos f ≡ None → (e : ℕ) → StoredFault m infos f settings (NoResource e) → ⊥)

-- the reference count of each expression fits a usize
abbrev pub CountsFit : Function → Type 0
CountsFit f = (e : ℕ) → e < length f.expressions → count_of f e < 2 ^ 64

abbrev pub FullCountsAreFaults : Type 0
FullCountsAreFaults = (m : Module) (infos : List FunctionInfo) (f : Function) (settings : Settings) →
    ((e : ℕ) → 2 ^ 64 ≤ count_of f e → StoredFault m infos f settings (CountFull e))
    × (FunctionInRange m f → CountsFit f → (e : ℕ) → StoredFault m infos f settings (CountFull e) → ⊥)

abbrev pub FlowViolationsAreFaults : Type 0
FlowViolationsAreFaults = (m : Module) (infos : List FunctionInfo) (f : Function) (settings : Settings) → PointsBackwards f →
    ((x : FlowViolation) → computed_violation m infos f ≡ Some x →
    (x.requirements.0 < 16) × IsComputedViolation m infos f settings (has_need x.requirements.0) x.expression (disruptor_of x.disruptor))
    × (computed_violation m infos f ≡ None → (needs : Need → Bool) (e : ℕ) (disruptor : Disruptor) →
    IsComputedViolation m infos f settings needs e disruptor → ⊥)
