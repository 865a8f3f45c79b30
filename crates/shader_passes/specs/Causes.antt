-- The fault that an error reports.
use Rattle.std.specs.Prelude.{◌≡◌, ◌==◌, ◌<◌, ℕ, bit_and}
use Rattle.shader_analysis_spec.specs.Faults.{Capability, IndexTextures, IndexStorageTextures, Settings, Disruptor}
use Rattle.shader_analysis_spec.specs.Faults.{Source, EarlierReturn, EarlierDiscard, Cause, Untyped, MissingCapability}
use Rattle.shader_analysis_spec.specs.Faults.{NoResource, BindingArrayElement, NonUniformControlFlow, CountFull}
use Rattle.shader_analysis_spec.specs.Needs.{has_need}
use Rattle.shader_info.specs.declared.error.ExpressionError.{ExpressionError}
use Rattle.shader_info.specs.declared.error.ExpressionError.TheVariants as expression
use Rattle.shader_info.specs.declared.error.FunctionError.{FunctionError}
use Rattle.shader_info.specs.declared.error.FunctionError.TheVariants as error
use Rattle.shader_info.specs.declared.error.UniformityDisruptor.{UniformityDisruptor}
use Rattle.shader_info.specs.declared.error.UniformityDisruptor.TheVariants as disruptor
use Rattle.shader_info.specs.declared.flags.Capabilities.{Capabilities}
use Rattle.shader_info.specs.declared.flags.ValidationFlags.{ValidationFlags}
use Rattle.shader_resolve.specs.Outcome.{refusal_of}

-- the bits of a capability
abbrev pub number_of : Capability → ℕ
number_of IndexTextures = 1
number_of IndexStorageTextures = 2

-- the settings given by the flags and the capabilities
abbrev pub settings_of : ValidationFlags → Capabilities → Settings
settings_of flags capabilities = record {
  checks_flow = bit_and flags.0 1 == 1;
  indexes_textures = bit_and capabilities.0 1 == 1;
  indexes_storage_textures = bit_and capabilities.0 2 == 2;
}

abbrev pub disruptor_of : UniformityDisruptor → Disruptor
disruptor_of (disruptor.Expression source) = Source source
disruptor_of disruptor.Return = EarlierReturn
disruptor_of disruptor.Discard = EarlierDiscard

-- the cause that an expression's error reports is one of the causes; a missing capability is reported by itself
abbrev pub IsNamedOf : (Cause → Type 0) → ℕ → ExpressionError → Type 0
IsNamedOf IsCause e (expression.Resolve failure) = IsCause (Untyped e (refusal_of failure))
IsNamedOf IsCause e (expression.MissingCapabilities wanted) =
    (capability : Capability) × (wanted.0 ≡ number_of capability) × IsCause (MissingCapability e capability)
IsNamedOf IsCause e expression.ExpectedGlobalOrArgument = IsCause (NoResource e)
IsNamedOf IsCause e expression.BindingArrayElement = IsCause (BindingArrayElement e)

-- the cause that an error reports is one of the causes; an allocation failure reports none
abbrev pub IsNamed : (Cause → Type 0) → FunctionError → Type 0
IsNamed IsCause (error.Expression e source) = IsNamedOf IsCause e source
IsNamed IsCause (error.NonUniformControlFlow needs e flow_disruptor) =
    (needs.0 < 16) × IsCause (NonUniformControlFlow (has_need needs.0) e (disruptor_of flow_disruptor))
IsNamed IsCause (error.CountFull e) = IsCause (CountFull e)
IsNamed IsCause error.OutOfMemory = Unit {0}
