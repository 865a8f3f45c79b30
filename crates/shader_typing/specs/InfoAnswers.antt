-- What the info of an analysed function answers.
use Rattle.std.specs.Prelude.{◌≡◌, ◌↔◌, ℕ, Contains, IsTrue, Some, is_some, length, slice_get}
use Rattle.std.specs.Int.{IsBitSet}
use Rattle.shader_analysis.specs.Fitting.{IsUnrestricted}
use Rattle.shader_analysis.specs.Processed.{IsFunctionAt, IsInfoAt}
use Rattle.shader_analysis.specs.Recorded.{Recorded}
use Rattle.shader_analysis_spec.specs.Counts.{count_of}
use Rattle.shader_analysis_spec.specs.Derivable.{Derives, function_context}
use Rattle.shader_analysis_spec.specs.Infos.{InGlobal, Use, bit_of}
use Rattle.shader_analysis_spec.specs.Kills.{HasOrigin, Kills}
use Rattle.shader_analysis_spec.specs.Needs.{Need, Needs, ExpressionNeeds, bit_of_need}
use Rattle.shader_analysis_spec.specs.Origins.{Origin, ResultOrigin}
use Rattle.shader_analysis_spec.specs.Pairs.{IsPair}
use Rattle.shader_analysis_spec.specs.Program.{Function, Module}
use Rattle.shader_analysis_spec.specs.Uses.{Uses}
use Rattle.shader_info.specs.Recorded.{IsSampled}
use Rattle.shader_info.specs.declared.error.AnalysisLocation.{AnalysisLocation}
use Rattle.shader_info.specs.declared.flags.GlobalUse.{GlobalUse}
use Rattle.shader_info.specs.declared.info.ExpressionInfo.{ExpressionInfo}
use Rattle.shader_info.specs.declared.info.FunctionInfo.{FunctionInfo}
use Rattle.shader_info.specs.declared.info.GlobalOrArgument.{GlobalOrArgument}
use Rattle.shader_passes.specs.RecordedPairs.{HasArgument, resource_view}
use Rattle.shader_typing.specs.ExactRecord.{IsExactRecord}

module _ (m : Module) (f : Function) where
  -- some call path gives the function's result a source of non-uniformity
  abbrev pub HasResultOrigin : Type 0
  HasResultOrigin = (reached : Function) × (source : ℕ) × ResultOrigin m f reached source

  -- what is recorded of expression e
  pub record ExpressionAnswers (e : ℕ) (of : ExpressionInfo) : Type 0 where
    pub derived : Derives (function_context m f) f.expressions e of.ty
    pub count : of.ref_count ≡ count_of f e
    pub varies : IsTrue (is_some of.uniformity.non_uniform_result) ↔ HasOrigin m f e
    pub source : (h : ℕ) → of.uniformity.non_uniform_result ≡ Some h → (r : Function) × Origin m f e r h
    pub needs : (n : Need) → IsBitSet of.uniformity.requirements.0 (bit_of_need n) ↔ ExpressionNeeds m n f e

  -- what the info of f records, each answer by the definition over call paths; the stages and the blending are the same for all
  pub record InfoAnswers (info : FunctionInfo) : Type 0 where
    pub globals : length info.global_uses ≡ length m.global_variables
    pub expressions : length info.expressions ≡ length f.expressions
    pub each_expression : (e : ℕ) (of : ExpressionInfo) → slice_get info.expressions e ≡ Some of → ExpressionAnswers e of
    pub uses : (g : ℕ) (used : GlobalUse) (u : Use) → slice_get info.global_uses g ≡ Some used → IsBitSet used.0 (bit_of u) ↔ Uses m f g u
    pub pairs : (image sampler : ℕ) →
        Contains info.sampling_set.keys (record { image = image; sampler = sampler }) ↔ IsPair m f (InGlobal image) (InGlobal sampler)
    pub pairs_with_arguments : (image sampler : GlobalOrArgument) → IsSampled info image sampler
        ↔ (HasArgument (resource_view image) (resource_view sampler) × IsPair m f (resource_view image) (resource_view sampler))
    pub varies : IsTrue (is_some info.uniformity.non_uniform_result) ↔ HasResultOrigin
    pub source : (h : ℕ) → info.uniformity.non_uniform_result ≡ Some h → (r : Function) × ResultOrigin m f r h
    pub needs : (n : Need) → IsBitSet info.uniformity.requirements.0 (bit_of_need n) ↔ Needs m n f
    pub kills : IsTrue info.may_kill ↔ Kills m f
    pub unrestricted : IsUnrestricted info

-- an exact record has an info of each function and each entry point, and each answers
pub record RecordAnswers (m : Module) (info : Recorded) : Type 0 where
  pub functions : length info.functions ≡ length m.functions
  pub entry_points : length info.entry_points ≡ length m.entry_points
  pub each : (at : AnalysisLocation) (f : Function) (of : FunctionInfo) → IsFunctionAt m at f → IsInfoAt info at of → InfoAnswers m f of

abbrev pub ExactRecordsAnswer : Type 0
ExactRecordsAnswer = (m : Module) (info : Recorded) → IsExactRecord m info → RecordAnswers m info
