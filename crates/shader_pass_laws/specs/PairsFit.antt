-- Bounds on the resources of a function's collected pairs.
use Rattle.std.specs.Prelude.{◌≡◌, ℕ, ◌<◌, List, Some, All, slice_get, length}
use Rattle.std.specs.List.{Contains}
use Rattle.shader_ir.specs.declared.expression.Expression.TheVariants as form
use Rattle.shader_ir.specs.declared.proc.type_resolution.TypeResolution.{TypeResolution}
use Rattle.shader_analysis_spec.specs.Derivable.{AreTypes, Derives, function_context}
use Rattle.shader_analysis_spec.specs.Infos.{Resource, InGlobal, InArgument}
use Rattle.shader_analysis_spec.specs.Program.{Function, Module, IsExpressionAt}
use Rattle.shader_info.specs.declared.info.FunctionInfo.{FunctionInfo}
use Rattle.shader_info.specs.declared.info.Sampling.{Sampling}
use Rattle.shader_info.specs.declared.info.SamplingKey.{SamplingKey}
use Rattle.shader_info.specs.Fit.{Fits, IsKnown, IsOpen}
use Rattle.shader_passes.specs.Conditions.{GlobalsWithin}
use Rattle.shader_passes.specs.Results.{computed_pairs}
use Rattle.shader_passes.specs.RecordedPairs.{SameMembers, pairs_in}

-- the resource is among that many globals or arguments
abbrev pub IsWithin : ℕ → ℕ → Resource → Type 0
IsWithin globals arguments (InGlobal global) = global < globals
IsWithin globals arguments (InArgument argument) = argument < arguments

-- each stored info is one of the function at its position
pub record FitStored (m : Module) (infos : List FunctionInfo) : Type 0 where
  pub function : (c : ℕ) (info : FunctionInfo) → slice_get infos c ≡ Some info → (r : Function) × (slice_get m.functions c ≡ Some r)
  pub fits : (c : ℕ) (r : Function) (info : FunctionInfo) → slice_get m.functions c ≡ Some r → slice_get infos c ≡ Some info → Fits m r info

-- each argument that an expression of the function names exists
abbrev pub ArgumentsWithin : Function → Type 0
ArgumentsWithin f = (e i : ℕ) → IsExpressionAt f e (form.FunctionArgument i) → i < length f.arguments

abbrev pub TypedArgumentsAreWithin : Type 0
TypedArgumentsAreWithin = (m : Module) (f : Function) (e i : ℕ) (resolution : TypeResolution) →
    IsExpressionAt f e (form.FunctionArgument i) →
    Derives (function_context m f) f.expressions e resolution → i < length f.arguments

abbrev pub TypedFunctionsHaveArguments : Type 0
TypedFunctionsHaveArguments = (m : Module) (f : Function) (types : List TypeResolution) →
    AreTypes (function_context m f) f.expressions types → ArgumentsWithin f

abbrev pub ComputedPairsAreWithin : Type 0
ComputedPairsAreWithin = (m : Module) (infos : List FunctionInfo) (f : Function) → FitStored m infos → GlobalsWithin m f →
    ArgumentsWithin f →
    (image sampler : Resource) → Contains (computed_pairs infos f) (image, sampler) →
    IsWithin (length m.global_variables) (length f.arguments) image × IsWithin (length m.global_variables) (length f.arguments) sampler

-- if two sets of keys are the collected pairs, each of their resources exists
abbrev pub CollectedPairsFit : Type 0
CollectedPairsFit = (m : Module) (infos : List FunctionInfo) (f : Function) → FitStored m infos → GlobalsWithin m f → ArgumentsWithin f →
    (known : List SamplingKey) (with_arguments : List Sampling) → SameMembers (pairs_in known with_arguments) (computed_pairs infos f) →
    All (IsKnown (length m.global_variables)) known × All (IsOpen (length m.global_variables) (length f.arguments)) with_arguments
