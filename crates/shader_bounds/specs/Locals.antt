-- The types that need a local variable, to which pointers out of bounds are redirected.
use Rattle.std.specs.Prelude.{◌≡◌, ℕ, List, Option, Some, None, slice_get}
use Rattle.std.specs.List.{Contains}
use Rattle.std.specs.Option.{option_and_then}
use Rattle.shader_analysis_spec.specs.Program.{Call, Function, Leaf, Module, Step, statements}
use Rattle.shader_ir.specs.Key.{found_inner}
use Rattle.shader_ir.specs.declared.function.FunctionArgument.{FunctionArgument}
use Rattle.shader_ir.specs.declared.proc.type_resolution.TypeResolution.{TypeResolution}
use Rattle.shader_ir.specs.declared.types.«Type».{«Type»}
use Rattle.shader_ir.specs.declared.types.TypeInner.{TypeInner}
use Rattle.shader_ir.specs.declared.types.TypeInner.TheVariants.{Pointer}
use Rattle.shader_bounds.specs.Checked.{ChainNeedsCheck}
use Rattle.shader_bounds.specs.declared.policies.BoundsCheckPolicies.{BoundsCheckPolicies}
use Rattle.shader_bounds.specs.declared.policies.BoundsCheckPolicy.TheVariants.{ReadZeroSkipWrite}

abbrev pub pointed : TypeInner → Option ℕ
pointed (Pointer base space) = Some base
pointed _ = None

-- the type that a pointer of the type at a handle points to
abbrev pub pointed_at : List «Type» → ℕ → Option ℕ
pointed_at types ty = option_and_then pointed (found_inner (slice_get types ty))

module _ (m : Module) (f : Function) (HasType : ℕ → TypeResolution → Type 0) where
  -- the argument for the parameter is a pointer to the type, reached by accesses one of which needs a check
  pub record PassesUnchecked (ty : ℕ) (parameter : FunctionArgument) (argument : ℕ) : Type 0 where
    pub points : pointed_at m.types parameter.ty ≡ Some ty
    pub chain : ChainNeedsCheck m f HasType argument

  -- one of these pairs of a parameter and an argument passes such a pointer
  abbrev pub PairsPass : List (FunctionArgument × ℕ) → ℕ → Type 0
  PairsPass pairs ty = (pair : FunctionArgument × ℕ) × Contains pairs pair × PassesUnchecked ty pair.0 pair.1

  -- an argument of a call passes such a pointer
  pub record CallPasses (ty callee : ℕ) (arguments : List ℕ) : Type 0 where
    pub called : Function
    pub position : ℕ
    pub parameter : FunctionArgument
    pub argument : ℕ
    pub is_there : slice_get m.functions callee ≡ Some called
    pub taken : slice_get called.arguments position ≡ Some parameter
    pub given : slice_get arguments position ≡ Some argument
    pub passes : PassesUnchecked ty parameter argument

  abbrev pub StepPasses : ℕ → Step → Type 0
  StepPasses ty (Leaf (Call callee arguments result)) = CallPasses ty callee arguments
  StepPasses ty _ = ⊥

  -- one of these statements is such a call
  abbrev pub AllPass : List Step → ℕ → Type 0
  AllPass steps ty = (step : Step) × Contains steps step × StepPasses ty step

  -- one of the function's statements, at any depth, is such a call
  abbrev pub NeedsLocal : ℕ → Type 0
  NeedsLocal ty = AllPass (statements f.body) ty

  -- the types that need a local variable, if indexes out of bounds read zero
  abbrev pub IsOutOfBoundsType : BoundsCheckPolicies → ℕ → Type 0
  IsOutOfBoundsType policies ty = (policies.index ≡ ReadZeroSkipWrite) × NeedsLocal ty
