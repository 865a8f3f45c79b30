-- Infos that fit a function.
use Rattle.std.specs.Prelude.{◌≡◌, ℕ, ◌<◌, All, IfSome, length}
use Rattle.shader_ir.specs.declared.function.Function.{Function}
use Rattle.shader_ir.specs.declared.«module».Module.{Module}
use Rattle.shader_ir.specs.declared.proc.type_resolution.TypeResolution.{TypeResolution}
use Rattle.shader_ir.specs.declared.proc.type_resolution.TypeResolution.TheVariants.{Handle, Value}
use Rattle.shader_ir.specs.TypeTree.{PointsBelow}
use Rattle.shader_resolve.specs.WellFormed.{sizing_override}
use Rattle.shader_info.specs.declared.info.ExpressionInfo.{ExpressionInfo}
use Rattle.shader_info.specs.declared.info.FunctionInfo.{FunctionInfo}
use Rattle.shader_info.specs.declared.info.GlobalOrArgument.{GlobalOrArgument}
use Rattle.shader_info.specs.declared.info.GlobalOrArgument.TheVariants.{Global, Argument}
use Rattle.shader_info.specs.declared.info.Sampling.{Sampling}
use Rattle.shader_info.specs.declared.info.SamplingKey.{SamplingKey}

-- the handles in a type are in range, and the override that sizes it too
abbrev pub IsOfModule : Module → TypeResolution → Type 0
IsOfModule checked (Handle handle) = handle < length checked.types
IsOfModule checked (Value inner) =
    PointsBelow (length checked.types) inner × IfSome (sizing_override inner) (λ override. override < length checked.overrides)

-- both are among this number of global variables
abbrev pub IsKnown : ℕ → SamplingKey → Type 0
IsKnown globals key = (key.image < globals) × (key.sampler < globals)

-- the position is among these numbers of global variables or arguments
abbrev pub IsResourceInRange : ℕ → ℕ → GlobalOrArgument → Type 0
IsResourceInRange globals arguments (Global global) = global < globals
IsResourceInRange globals arguments (Argument argument) = argument < arguments

abbrev pub IsOpen : ℕ → ℕ → Sampling → Type 0
IsOpen globals arguments pair = IsResourceInRange globals arguments pair.image × IsResourceInRange globals arguments pair.sampler

-- the tables have an entry for each global variable and each expression, and everything that types and pairs name is in range
pub record Fits (checked : Module) (function : Function) (info : FunctionInfo) : Type 0 where
  pub global_uses : length info.global_uses ≡ length checked.global_variables
  pub expressions : length info.expressions ≡ length function.expressions
  pub types : All (λ (expression : ExpressionInfo). IsOfModule checked expression.ty) info.expressions
  pub known : All (IsKnown (length checked.global_variables)) info.sampling_set.keys
  pub with_arguments : All (IsOpen (length checked.global_variables) (length function.arguments)) info.sampling.keys
