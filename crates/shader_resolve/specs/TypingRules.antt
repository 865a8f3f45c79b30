-- The typing rules: which operands each kind of expression queries, and the outcome from their
-- types.
use Rattle.std.specs.Prelude.{ℕ, List, Option, Some, None, slice_get}
use Rattle.shader_ir.specs.declared.expression.Expression.{Expression}
use Rattle.shader_ir.specs.declared.expression.Expression.TheVariants as form
use Rattle.shader_ir.specs.declared.expression.ImageQuery.{ImageQuery}
use Rattle.shader_ir.specs.declared.expression.ImageQuery.TheVariants as query
use Rattle.shader_ir.specs.declared.function.Function.{Function}
use Rattle.shader_ir.specs.declared.function.FunctionArgument.{FunctionArgument}
use Rattle.shader_ir.specs.declared.function.FunctionResult.{FunctionResult}
use Rattle.shader_ir.specs.declared.function.LocalVariable.{LocalVariable}
use Rattle.shader_ir.specs.declared.literal.Literal.{Literal}
use Rattle.shader_ir.specs.declared.literal.Literal.TheVariants as literal
use Rattle.shader_ir.specs.declared.module.Constant.{Constant}
use Rattle.shader_ir.specs.declared.module.GlobalVariable.{GlobalVariable}
use Rattle.shader_ir.specs.declared.module.Override.{Override}
use Rattle.shader_ir.specs.declared.operators.BinaryOperator.{BinaryOperator}
use Rattle.shader_ir.specs.declared.operators.BinaryOperator.TheVariants as operator
use Rattle.shader_ir.specs.declared.operators.MathFunction.{MathFunction}
use Rattle.shader_ir.specs.declared.operators.RelationalFunction.{RelationalFunction}
use Rattle.shader_ir.specs.declared.operators.RelationalFunction.TheVariants as relational
use Rattle.shader_ir.specs.declared.operators.SwizzleComponent.{SwizzleComponent}
use Rattle.shader_ir.specs.declared.scalar.CooperativeRole.{CooperativeRole}
use Rattle.shader_ir.specs.declared.scalar.CooperativeSize.{CooperativeSize}
use Rattle.shader_ir.specs.declared.scalar.Scalar.{Scalar}
use Rattle.shader_ir.specs.declared.scalar.ScalarKind.TheVariants as kind
use Rattle.shader_ir.specs.declared.scalar.VectorSize.{VectorSize}
use Rattle.shader_ir.specs.declared.scalar.VectorSize.TheVariants.{Quad}
use Rattle.shader_ir.specs.declared.types.«Type».{«Type»}
use Rattle.shader_ir.specs.declared.types.AddressSpace.{AddressSpace}
use Rattle.shader_ir.specs.declared.types.AddressSpace.TheVariants as space
use Rattle.shader_ir.specs.declared.types.TypeInner.{TypeInner}
use Rattle.shader_ir.specs.declared.types.TypeInner.TheVariants as type
use Rattle.shader_ir.specs.declared.proc.type_resolution.TypeResolution.{TypeResolution}
use Rattle.shader_ir.specs.declared.proc.type_resolution.TypeResolution.TheVariants.{Handle, Value}
use Rattle.shader_ir.specs.Key.{found_inner}
use Rattle.shader_resolve.specs.Builtins.{math_of_one, math_of_two}
use Rattle.shader_resolve.specs.Context.{Context}
use Rattle.shader_ir.specs.Queries.{scalar_of}
use Rattle.shader_ir.specs.Scalars.{scalar}
use Rattle.shader_resolve.specs.Images.{bool_scalar, u32_scalar, i32_scalar, f32_scalar, extent_type, gather_type, sample_type}
use Rattle.shader_resolve.specs.Operations.{cast_type, left_type, product, test_type}
use Rattle.shader_resolve.specs.Outcome.{NoSuchHandle, InvalidScalar, InvalidVector, InvalidPointer, FunctionReturnsVoid}
use Rattle.shader_resolve.specs.Outcome.{FunctionArgumentNotFound, MissingSpecialType, Outcome, Given, Refused, at_shape}
use Rattle.shader_resolve.specs.Component.{lifted}

-- a typing rule: the operands that it queries, in order, and its outcome from their types
pub data TypingRule : Type 0 where
  Plain : Outcome → TypingRule
  One : ℕ → (TypeResolution → Outcome) → TypingRule
  Two : ℕ → ℕ → (TypeResolution → TypeResolution → Outcome) → TypingRule

abbrev pub scalar_value : Scalar → Outcome
scalar_value scalar = Given (Value (type.Scalar scalar))

abbrev pub literal_scalar : Literal → Scalar
literal_scalar (literal.F64 bits) = scalar kind.Float 8
literal_scalar (literal.F32 bits) = f32_scalar
literal_scalar (literal.F16 bits) = scalar kind.Float 2
literal_scalar (literal.AbstractFloat bits) = scalar kind.AbstractFloat 8
literal_scalar (literal.U16 value) = scalar kind.Uint 2
literal_scalar (literal.I16 value) = scalar kind.Sint 2
literal_scalar (literal.U32 value) = u32_scalar
literal_scalar (literal.I32 value) = i32_scalar
literal_scalar (literal.U64 value) = scalar kind.Uint 8
literal_scalar (literal.I64 value) = scalar kind.Sint 8
literal_scalar (literal.AbstractInt value) = scalar kind.AbstractInt 8
literal_scalar (literal.Bool value) = bool_scalar

abbrev pub constant_type : Option Constant → Outcome
constant_type (Some constant) = Given (Handle constant.ty)
constant_type None = Refused NoSuchHandle

abbrev pub override_type : Option Override → Outcome
override_type (Some override) = Given (Handle override.ty)
override_type None = Refused NoSuchHandle

abbrev pub argument_type : ℕ → Option FunctionArgument → Outcome
argument_type index (Some argument) = Given (Handle argument.ty)
argument_type index None = Refused (FunctionArgumentNotFound index)

-- a variable in space Handle is named itself, any other by a pointer
abbrev pub variable_type : AddressSpace → ℕ → Outcome
variable_type space.Handle ty = Given (Handle ty)
variable_type space ty = Given (Value (type.Pointer ty space))

abbrev pub global_type : Option GlobalVariable → Outcome
global_type (Some variable) = variable_type variable.space variable.ty
global_type None = Refused NoSuchHandle

abbrev pub local_type : Option LocalVariable → Outcome
local_type (Some variable) = Given (Value (type.Pointer variable.ty space.Function))
local_type None = Refused NoSuchHandle

abbrev pub result_type : Option FunctionResult → Outcome
result_type (Some result) = Given (Handle result.ty)
result_type None = Refused FunctionReturnsVoid

abbrev pub call_type : Option Function → Outcome
call_type (Some function) = result_type function.result
call_type None = Refused NoSuchHandle

abbrev pub special_type : Option ℕ → Outcome
special_type (Some ty) = Given (Handle ty)
special_type None = Refused MissingSpecialType

abbrev pub found_scalar : Option TypeInner → Option Scalar
found_scalar (Some inner) = scalar_of inner
found_scalar None = None

-- the scalar of the pointee
abbrev pub pointed_scalar : List «Type» → TypeInner → Option Scalar
pointed_scalar types (type.Pointer base space) = found_scalar (found_inner (slice_get types base))
pointed_scalar types (type.ValuePointer size scalar space) = Some scalar
pointed_scalar types _ = None

module _ (expr : ℕ) where
  abbrev pub splat_type : VectorSize → TypeInner → Outcome
  splat_type size (type.Scalar scalar) = Given (Value (type.Vector size scalar))
  splat_type size _ = Refused (InvalidScalar expr)

  abbrev pub swizzle_type : VectorSize → TypeInner → Outcome
  swizzle_type size (type.Vector old_size scalar) = Given (Value (type.Vector size scalar))
  swizzle_type size _ = Refused (InvalidVector expr)

  -- the pointee of a pointer to the handle of a type with this shape
  abbrev pub pointed_type : ℕ → Option TypeInner → Outcome
  pointed_type base (Some (type.Atomic scalar)) = Given (Value (type.Scalar scalar))
  pointed_type base (Some inner) = Given (Handle base)
  pointed_type base None = Refused NoSuchHandle

  abbrev pub load_type : List «Type» → TypeInner → Outcome
  load_type types (type.Pointer base space) = pointed_type base (found_inner (slice_get types base))
  load_type types (type.ValuePointer (Some size) scalar space) = Given (Value (type.Vector size scalar))
  load_type types (type.ValuePointer None scalar space) = Given (Value (type.Scalar scalar))
  load_type types _ = Refused (InvalidPointer expr)

  abbrev pub matrix_type : CooperativeSize → CooperativeSize → CooperativeRole → Option Scalar → Outcome
  matrix_type columns rows role (Some scalar) = Given (Value (type.CooperativeMatrix columns rows scalar role))
  matrix_type columns rows role None = Refused (InvalidPointer expr)

  abbrev pub tile_type : List «Type» → CooperativeSize → CooperativeSize → CooperativeRole → TypeInner → Outcome
  tile_type types columns rows role inner = matrix_type columns rows role (pointed_scalar types inner)

-- the type of the operand
abbrev pub as_operand : ℕ → TypingRule
as_operand expr = One expr (λ resolution. Given resolution)

module _ (types : List «Type») where
  abbrev pub on_shape : ℕ → (TypeInner → Outcome) → TypingRule
  on_shape expr answer = One expr (λ resolution. at_shape types resolution answer)

  abbrev pub binary_rule : BinaryOperator → ℕ → ℕ → TypingRule
  binary_rule operator.Multiply left right = Two left right (product types)
  binary_rule op left right = One left (left_type types op)

  abbrev pub relational_rule : RelationalFunction → ℕ → TypingRule
  relational_rule relational.All argument = Plain (scalar_value bool_scalar)
  relational_rule relational.Any argument = Plain (scalar_value bool_scalar)
  relational_rule relational.IsNan argument = on_shape argument test_type
  relational_rule relational.IsInf argument = on_shape argument test_type

  abbrev pub sample_rule : ℕ → Option SwizzleComponent → TypingRule
  sample_rule image (Some component) = on_shape image (gather_type image)
  sample_rule image None = on_shape image (sample_type image)

  abbrev pub query_rule : ℕ → ImageQuery → TypingRule
  query_rule image (query.Size level) = on_shape image (extent_type image)
  query_rule image _ = Plain (scalar_value u32_scalar)

-- a call of a built-in function depends only on its first two arguments
abbrev pub math_rule : Context → MathFunction → ℕ → Option ℕ → TypingRule
math_rule context fun arg None = One arg (math_of_one context.types context.special_types fun)
math_rule context fun arg (Some arg1) = Two arg arg1 (math_of_two context.types context.special_types fun)

-- the typing rule of an expression
abbrev pub typing_rule : Context → Expression → TypingRule
typing_rule context (form.Literal literal) = Plain (scalar_value (literal_scalar literal))
typing_rule context (form.Constant constant) = Plain (constant_type (slice_get context.constants constant))
typing_rule context (form.Override override) = Plain (override_type (slice_get context.overrides override))
typing_rule context (form.ZeroValue ty) = Plain (Given (Handle ty))
typing_rule context (form.Compose ty components) = Plain (Given (Handle ty))
typing_rule context (form.Access base index) = on_shape context.types base (lifted context.types base None)
typing_rule context (form.AccessIndex base index) = on_shape context.types base (lifted context.types base (Some index))
typing_rule context (form.Splat size value) = on_shape context.types value (splat_type value size)
typing_rule context (form.Swizzle size vector pattern) = on_shape context.types vector (swizzle_type vector size)
typing_rule context (form.FunctionArgument index) = Plain (argument_type index (slice_get context.arguments index))
typing_rule context (form.GlobalVariable variable) = Plain (global_type (slice_get context.globals variable))
typing_rule context (form.LocalVariable variable) = Plain (local_type (slice_get context.locals variable))
typing_rule context (form.Load pointer) = on_shape context.types pointer (load_type pointer context.types)
typing_rule context (form.ImageSample image sampler gather clamp_to_edge coordinate array_index offset level depth_ref) =
    sample_rule context.types image gather
typing_rule context (form.ImageLoad image coordinate array_index sample level) = on_shape context.types image (sample_type image)
typing_rule context (form.ImageQuery image query) = query_rule context.types image query
typing_rule context (form.Unary op expr) = as_operand expr
typing_rule context (form.Binary op left right) = binary_rule context.types op left right
typing_rule context (form.Select condition accept reject) = as_operand accept
typing_rule context (form.Derivative axis ctrl expr) = as_operand expr
typing_rule context (form.Relational fun argument) = relational_rule context.types fun argument
typing_rule context (form.Math fun arg arg1 arg2 arg3) = math_rule context fun arg arg1
typing_rule context (form.As expr kind convert) = on_shape context.types expr (cast_type kind convert)
typing_rule context (form.CallResult function) = Plain (call_type (slice_get context.functions function))
typing_rule context (form.AtomicResult ty comparison) = Plain (Given (Handle ty))
typing_rule context (form.WorkGroupUniformLoadResult ty) = Plain (Given (Handle ty))
typing_rule context (form.ArrayLength array) = Plain (scalar_value u32_scalar)
typing_rule context (form.RayQueryVertexPositions query committed) = Plain (special_type context.special_types.ray_vertex_return)
typing_rule context form.RayQueryProceedResult = Plain (scalar_value bool_scalar)
typing_rule context (form.RayQueryGetIntersection query committed) = Plain (special_type context.special_types.ray_intersection)
typing_rule context form.SubgroupBallotResult = Plain (Given (Value (type.Vector Quad u32_scalar)))
typing_rule context (form.SubgroupOperationResult ty) = Plain (Given (Handle ty))
typing_rule context (form.CooperativeLoad columns rows role tile) =
    on_shape context.types tile.pointer (tile_type tile.pointer context.types columns rows role)
typing_rule context (form.CooperativeMultiplyAdd a b c) = as_operand c
