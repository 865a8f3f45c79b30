-- The faults of a function that are detected while its expressions are typed.
use Rattle.std.specs.Prelude.{◌≡◌, ℕ, List}
use Rattle.shader_analysis_spec.specs.Faults.{Cause, Untyped, MissingCapability, BindingArrayElement}
use Rattle.shader_analysis_spec.specs.StepFaults.{StepFault}
use Rattle.shader_analysis_spec.specs.Program.{Function, Module}
use Rattle.shader_info.specs.declared.error.ExpressionError.TheVariants as expression
use Rattle.shader_info.specs.declared.error.FunctionError.{FunctionError}
use Rattle.shader_info.specs.declared.error.FunctionError.TheVariants as error
use Rattle.shader_info.specs.declared.flags.Capabilities.{Capabilities}
use Rattle.shader_info.specs.declared.flags.ValidationFlags.{ValidationFlags}
use Rattle.shader_info.specs.declared.info.FunctionInfo.{FunctionInfo}
use Rattle.shader_resolve.specs.declared.error.ResolveError.{ResolveError}
use Rattle.shader_resolve.specs.declared.error.ResolveError.TheVariants as resolve
use Rattle.shader_passes.specs.Causes.{IsNamed, settings_of}
use Rattle.shader_passes.specs.InfoOf.{infos_of}

-- the expression has no type, or indexes a binding array as it may not
abbrev pub IsOfTyping : ℕ → Cause → Type 0
IsOfTyping e (Untyped d refusal) = d ≡ e
IsOfTyping e (MissingCapability d capability) = d ≡ e
IsOfTyping e (BindingArrayElement d) = d ≡ e
IsOfTyping e _ = ⊥

-- the function's error for an expression whose type resolution fails so
abbrev pub untyped_error : ℕ → ResolveError → FunctionError
untyped_error e resolve.OutOfMemory = error.OutOfMemory
untyped_error e failure = error.Expression e (expression.Resolve failure)

-- the capabilities are fixed, the flags are arbitrary
module _ (m : Module) (infos : List FunctionInfo) (f : Function) (capabilities : Capabilities) where
  -- the expression has a type, and indexes no binding array as it may not
  abbrev pub IsSound : ℕ → Type 0
  IsSound e = (flags : ValidationFlags) (cause : Cause) → IsOfTyping e cause →
      StepFault m (infos_of infos) f (settings_of flags capabilities) cause → ⊥

  -- the error reports a fault of the function
  abbrev pub NamesFault : FunctionError → Type 0
  NamesFault failure = (flags : ValidationFlags) → IsNamed (StepFault m (infos_of infos) f (settings_of flags capabilities)) failure
