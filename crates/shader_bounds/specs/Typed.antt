-- The recorded types of a function's expressions.
use Rattle.std.specs.Prelude.{◌≡◌, ◌⊎◌, ℕ, List, Option, Some, None, slice_get, Err}
use Rattle.std.specs.Option.{option_and_then, option_map}
use Rattle.shader_info.specs.declared.info.ExpressionInfo.{ExpressionInfo}
use Rattle.shader_info.specs.declared.info.FunctionInfo.{FunctionInfo}
use Rattle.shader_ir.specs.Key.{inner_of}
use Rattle.shader_ir.specs.declared.function.EntryPoint.{EntryPoint}
use Rattle.shader_ir.specs.declared.function.Function.{Function}
use Rattle.shader_ir.specs.declared.«module».Module.{Module}
use Rattle.shader_ir.specs.declared.proc.type_resolution.TypeResolution.{TypeResolution}
use Rattle.shader_ir.specs.declared.types.«Type».{«Type»}
use Rattle.shader_ir.specs.declared.types.TypeInner.{TypeInner}
use Rattle.shader_bounds.specs.Lengths.{Answer, base_length}
use Rattle.shader_bounds.specs.declared.error.IndexableLengthError.TheVariants.{TypeNotIndexable}

-- the type that the info records of an expression, if any
abbrev pub type_at : FunctionInfo → ℕ → Option TypeResolution
type_at info e = option_map (λ (expression : ExpressionInfo). expression.ty) (slice_get info.expressions e)

-- the info records this type of the expression
abbrev pub Records : FunctionInfo → ℕ → TypeResolution → Type 0
Records info e resolution = type_at info e ≡ Some resolution

abbrev pub inner_at : List «Type» → Option TypeResolution → Option TypeInner
inner_at types base = option_and_then (inner_of types) base

abbrev pub length_at : Module → Option TypeResolution → Answer
length_at checked (Some base) = base_length checked base
length_at checked None = Err TypeNotIndexable

-- the function is one of the module's, or that of one of its entry points
abbrev pub IsFunctionOf : Module → Function → Type 0
IsFunctionOf checked f =
    ((i : ℕ) × (slice_get checked.functions i ≡ Some f))
    ⊎ ((i : ℕ) × (entry : EntryPoint) × (slice_get checked.entry_points i ≡ Some entry) × (entry.function ≡ f))
