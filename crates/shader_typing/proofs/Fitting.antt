-- The functions of a well-formed module fit, and so do their expressions.
use Rattle.std.proofs.Common.{◌≡◌, inl, inr, refl, sym, subst, ℕ, Some, slice_get}
use Rattle.shader_typing.specs.Contexts.{ExpressionsFit, FunctionsFit, PositionsAreOfFunctions}
use Rattle.shader_analysis_spec.specs.Program.{Expression, Function, Module}
use Rattle.shader_bounds.specs.Typed.{IsFunctionOf}
use Rattle.shader_expression_types.proofs.ListLemmas.{at_position}
use Rattle.shader_ir.specs.declared.function.EntryPoint.{EntryPoint}
use Rattle.shader_resolve.proofs.ContextLemmas.{contexts_of_well_formed}
use Rattle.shader_resolve.specs.Context.{Context, IsInRange, TypesInRange, context_of}
use Rattle.shader_resolve.specs.ContextLaws.{FunctionFits}
use Rattle.shader_resolve.specs.WellFormed.{IsWellFormed, OperandsBelow}

pub function_fits : FunctionsFit
function_fits m i f well at = at_position (FunctionFits m) m.functions i f (contexts_of_well_formed m well).functions at

pub expression_fits : ExpressionsFit
expression_fits m i e f x well at is =
    let fits = function_fits m i f well at in
    record {
      types = fits.types;
      names = at_position (IsInRange (context_of m f.local_variables f.arguments)) f.expressions e x fits.names is;
      operands = well.operands.functions.functions i f at e x is;
    }

-- the same of a context that is known to be the function's
module _ (m : Module) (i : ℕ) (f : Function) (context : Context) (well : IsWellFormed m) (at : slice_get m.functions i ≡ Some f)
    (is : context ≡ context_of m f.local_variables f.arguments) where
  pub types_in_range : TypesInRange context
  types_in_range = subst TypesInRange (sym is) (function_fits m i f well at).types

  module _ (e : ℕ) (x : Expression) (there : slice_get f.expressions e ≡ Some x) where
    pub names_in_range : IsInRange context x
    names_in_range = subst (λ (v : Context). IsInRange v x) (sym is) (expression_fits m i e f x well at there).names

    pub operands_below : OperandsBelow e x
    operands_below = (expression_fits m i e f x well at there).operands

-- the function at a position is one of the module's, which bounds checks require, and so is the function of an entry point
pub is_function_at : (m : Module) (i : ℕ) (f : Function) → slice_get m.functions i ≡ Some f → IsFunctionOf m f
is_function_at m i f at = inl (i, at)

pub is_entry_point_at : (m : Module) (i : ℕ) (entry : EntryPoint) → slice_get m.entry_points i ≡ Some entry → IsFunctionOf m entry.function
is_entry_point_at m i entry at = inr (i, entry, at, refl)

pub positions_are_of_functions : PositionsAreOfFunctions
positions_are_of_functions m i = (λ f at. is_function_at m i f at, λ entry at. is_entry_point_at m i entry at)
