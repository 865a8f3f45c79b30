-- The context of a function of a well-formed module, given the function's position.
use Rattle.std.specs.Prelude.{◌≡◌, ℕ, Some, slice_get}
use Rattle.shader_analysis_spec.specs.Program.{Expression, Function, Module}
use Rattle.shader_bounds.specs.Typed.{IsFunctionOf}
use Rattle.shader_ir.specs.declared.function.EntryPoint.{EntryPoint}
use Rattle.shader_resolve.specs.Context.{IsInRange, TypesInRange, context_of}
use Rattle.shader_resolve.specs.ContextLaws.{FunctionFits}
use Rattle.shader_resolve.specs.WellFormed.{IsWellFormed, OperandsBelow}

-- the function fits, so the types that its context names are in range
abbrev pub FunctionsFit : Type 0
FunctionsFit = (m : Module) (i : ℕ) (f : Function) → IsWellFormed m → slice_get m.functions i ≡ Some f → FunctionFits m f

-- what an expression names is in range, and its operands are before it
pub record IsNextInRange (m : Module) (f : Function) (e : ℕ) (x : Expression) : Type 0 where
  pub types : TypesInRange (context_of m f.local_variables f.arguments)
  pub names : IsInRange (context_of m f.local_variables f.arguments) x
  pub operands : OperandsBelow e x

abbrev pub ExpressionsFit : Type 0
ExpressionsFit = (m : Module) (i e : ℕ) (f : Function) (x : Expression) → IsWellFormed m → slice_get m.functions i ≡ Some f →
    slice_get f.expressions e ≡ Some x → IsNextInRange m f e x

-- the function at a position of the module's list is one of the module's, and so is that of the entry point at one
abbrev pub PositionsAreOfFunctions : Type 0
PositionsAreOfFunctions = (m : Module) (i : ℕ) → ((f : Function) → slice_get m.functions i ≡ Some f → IsFunctionOf m f)
    × ((entry : EntryPoint) → slice_get m.entry_points i ≡ Some entry → IsFunctionOf m entry.function)
