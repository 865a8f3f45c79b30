-- Agreement of the passes over one function with its step equations.
use Rattle.std.specs.Prelude.{◌≡◌, ◌↔◌, ℕ, ◌<◌, List, slice_index, length, IsTrue}
use Rattle.std.specs.Int.{IsBitSet}
use Rattle.std.specs.List.{Contains}
use Rattle.shader_analysis_spec.specs.Infos.{Info, IsWitness, Resource, Use, bit_of}
use Rattle.shader_analysis_spec.specs.Needs.{Need, bit_of_need}
use Rattle.shader_analysis_spec.specs.Program.{Function, Module, statements}
use Rattle.shader_analysis_spec.specs.Steps.{StepExpressionNeed, StepKill, StepNeed, StepPair, StepResult, StepUse}
use Rattle.shader_info.specs.declared.info.FunctionInfo.{FunctionInfo}
use Rattle.shader_passes.specs.Conditions.{EachFits, GlobalsWithin}
use Rattle.shader_passes.specs.Results.{computed_expression_needs, computed_kill, computed_needs, computed_origins}
use Rattle.shader_passes.specs.Results.{own_uses, computed_pairs, computed_result, computed_uses}
use Rattle.shader_passes.specs.InfoOf.{PointsBackwards, infos_of}
use Rattle.shader_passes.specs.CalleeUses.{uses_with_calls}
use Rattle.shader_passes.specs.RecordedPairs.{SameMembers}

abbrev pub ResultsAreOfTheStep : Type 0
ResultsAreOfTheStep = (m : Module) (infos : List FunctionInfo) (f : Function) → PointsBackwards f →
    IsWitness (StepResult m (infos_of infos) f) (computed_result m infos f)

abbrev pub ExpressionNeedsAreOfTheStep : Type 0
ExpressionNeedsAreOfTheStep = (m : Module) (infos : List FunctionInfo) (f : Function) (n : Need) (e : ℕ) → e < length f.expressions →
    IsBitSet (slice_index (computed_expression_needs m infos f) e) (bit_of_need n) ↔ StepExpressionNeed (infos_of infos) f n e

abbrev pub NeedsAreOfTheStep : Type 0
NeedsAreOfTheStep = (m : Module) (infos : List FunctionInfo) (f : Function) (n : Need) →
    IsBitSet (computed_needs m infos f) (bit_of_need n) ↔ StepNeed (infos_of infos) f n

-- provided that the info records the computed origins
abbrev pub KillsAreOfTheStep : Type 0
KillsAreOfTheStep = (m : Module) (infos : List FunctionInfo) (f : Function) (info : Info) → computed_origins m infos f ≡ info.non_uniform →
    IsTrue (computed_kill m infos f) ↔ StepKill (infos_of infos) f info

-- in any order of the pairs, and with any repetition
abbrev pub PairsAreOfTheStep : Type 0
PairsAreOfTheStep = (infos : List FunctionInfo) (f : Function) (pairs : List (Resource × Resource)) →
    SameMembers pairs (computed_pairs infos f) →
    (image sampler : Resource) → Contains pairs (image, sampler) ↔ StepPair (infos_of infos) f image sampler

-- the function's own uses, joined global by global with those of its callees
pub record WithCalls (m : Module) (infos : List FunctionInfo) (f : Function) (uses : List ℕ) : Type 0 where
  pub long : length uses ≡ length (own_uses m infos f)
  pub each : (g : ℕ) → g < length uses →
      slice_index uses g ≡ uses_with_calls infos g (slice_index (own_uses m infos f) g) (statements f.body)

-- the uses meet their step equation, and have an entry for each global and no other bits
abbrev pub HasUses : Module → List FunctionInfo → Function → List ℕ → Type 0
HasUses m infos f uses = ((g : ℕ) (u : Use) → IsBitSet (slice_index uses g) (bit_of u) ↔ StepUse (infos_of infos) f g u)
    × (length uses ≡ length m.global_variables) × ((g : ℕ) → slice_index uses g < 16)

abbrev pub UsesAreOfTheStep : Type 0
UsesAreOfTheStep = (m : Module) (infos : List FunctionInfo) (f : Function) → PointsBackwards f → GlobalsWithin m f → EachFits m infos →
    (uses : List ℕ) → WithCalls m infos f uses → HasUses m infos f (computed_uses m infos f uses)
