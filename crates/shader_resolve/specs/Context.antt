-- The module data that type resolution reads.
use Rattle.std.specs.Prelude.{ℕ, ◌<◌, List, length, Option, All, IfSome}
use Rattle.shader_ir.specs.declared.expression.Expression.{Expression}
use Rattle.shader_ir.specs.declared.expression.Expression.TheVariants as form
use Rattle.shader_ir.specs.declared.function.Function.{Function}
use Rattle.shader_ir.specs.declared.function.FunctionArgument.{FunctionArgument}
use Rattle.shader_ir.specs.declared.function.FunctionResult.{FunctionResult}
use Rattle.shader_ir.specs.declared.function.LocalVariable.{LocalVariable}
use Rattle.shader_ir.specs.declared.module.Constant.{Constant}
use Rattle.shader_ir.specs.declared.module.GlobalVariable.{GlobalVariable}
use Rattle.shader_ir.specs.declared.module.Module.{Module}
use Rattle.shader_ir.specs.declared.module.Override.{Override}
use Rattle.shader_ir.specs.declared.module.PredeclaredType.{PredeclaredType}
use Rattle.shader_ir.specs.declared.module.SpecialTypes.{SpecialTypes}
use Rattle.shader_ir.specs.declared.types.«Type».{«Type»}

pub record Context : Type 0 where
  pub constants : List Constant
  pub overrides : List Override
  pub types : List «Type»
  pub special_types : SpecialTypes
  pub globals : List GlobalVariable
  pub locals : List LocalVariable
  pub functions : List Function
  pub arguments : List FunctionArgument

-- the context of a function with these locals and arguments
abbrev pub context_of : Module → List LocalVariable → List FunctionArgument → Context
context_of checked locals arguments = record {
  constants = checked.constants;
  overrides = checked.overrides;
  types = checked.types;
  special_types = checked.special_types;
  globals = checked.global_variables;
  locals = locals;
  functions = checked.functions;
  arguments = arguments;
}

module _ (context : Context) where
  -- the handles of the expression are in range, except its operands
  abbrev pub IsInRange : Expression → Type 0
  IsInRange (form.Constant constant) = constant < length context.constants
  IsInRange (form.Override override) = override < length context.overrides
  IsInRange (form.ZeroValue ty) = ty < length context.types
  IsInRange (form.Compose ty components) = ty < length context.types
  IsInRange (form.GlobalVariable variable) = variable < length context.globals
  IsInRange (form.LocalVariable variable) = variable < length context.locals
  IsInRange (form.CallResult function) = function < length context.functions
  IsInRange (form.AtomicResult ty comparison) = ty < length context.types
  IsInRange (form.WorkGroupUniformLoadResult ty) = ty < length context.types
  IsInRange (form.SubgroupOperationResult ty) = ty < length context.types
  IsInRange _ = Unit {0}

  abbrev pub IsType : ℕ → Type 0
  IsType ty = ty < length context.types

  abbrev pub IsResultType : Option FunctionResult → Type 0
  IsResultType result = IfSome result (λ result. IsType result.ty)

  -- the types that the context names are in range
  pub record TypesInRange : Type 0 where
    pub constants : All (λ (constant : Constant). IsType constant.ty) context.constants
    pub overrides : All (λ (override : Override). IsType override.ty) context.overrides
    pub globals : All (λ (variable : GlobalVariable). IsType variable.ty) context.globals
    pub locals : All (λ (variable : LocalVariable). IsType variable.ty) context.locals
    pub results : All (λ (function : Function). IsResultType function.result) context.functions
    pub arguments : All (λ (argument : FunctionArgument). IsType argument.ty) context.arguments
    pub ray_intersection : IfSome context.special_types.ray_intersection IsType
    pub ray_vertex_return : IfSome context.special_types.ray_vertex_return IsType
    pub predeclared : All (λ (entry : PredeclaredType × ℕ). IsType entry.1) context.special_types.predeclared_types
