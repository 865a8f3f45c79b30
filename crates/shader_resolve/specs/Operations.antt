-- The types of tests, products and conversions.
use Rattle.std.specs.Prelude.{ℕ, Bool, true, false, ◌&&◌, ◌==◌, List, Option, if◌then◌else◌}
use Rattle.std.specs.Option.{unwrap_or}
use Rattle.shader_ir.specs.declared.operators.BinaryOperator.{BinaryOperator}
use Rattle.shader_ir.specs.declared.operators.BinaryOperator.TheVariants as operator
use Rattle.shader_ir.specs.declared.scalar.ScalarKind.{ScalarKind}
use Rattle.shader_ir.specs.declared.scalar.ScalarKind.TheVariants as kind
use Rattle.shader_ir.specs.declared.types.«Type».{«Type»}
use Rattle.shader_ir.specs.declared.types.TypeInner.{TypeInner}
use Rattle.shader_ir.specs.declared.types.TypeInner.TheVariants as type
use Rattle.shader_ir.specs.declared.proc.type_resolution.TypeResolution.{TypeResolution}
use Rattle.shader_ir.specs.declared.proc.type_resolution.TypeResolution.TheVariants.{Value}
use Rattle.shader_ir.specs.Scalars.{scalar}
use Rattle.shader_resolve.specs.declared.resolve.operations.Product.{Product}
use Rattle.shader_resolve.specs.declared.resolve.operations.Product.TheVariants.{AsLeft, AsRight, Built, NoProduct}
use Rattle.shader_resolve.specs.Images.{bool_scalar}
use Rattle.shader_resolve.specs.Outcome.{IncompatibleOperands, Outcome, Given, Refused, at_shape}

-- a test of each component
abbrev pub test_type : TypeInner → Outcome
test_type (type.Scalar scalar) = Given (Value (type.Scalar bool_scalar))
test_type (type.Vector size scalar) = Given (Value (type.Vector size bool_scalar))
test_type _ = Refused IncompatibleOperands

abbrev pub is_bool : ScalarKind → Bool
is_bool kind.Bool = true
is_bool _ = false

-- a conjunction or a disjunction
abbrev pub logical_type : TypeInner → Outcome
logical_type (type.Scalar scalar) =
    if is_bool scalar.kind && (scalar.width == 1) then Given (Value (type.Scalar bool_scalar)) else Refused IncompatibleOperands
logical_type _ = Refused IncompatibleOperands

-- the type of a product: that of an operand, or a new one
abbrev pub product_of : TypeInner → TypeInner → Product
product_of (type.Matrix columns rows scalar) (type.Matrix right_columns right_rows right_scalar) =
    Built (type.Matrix right_columns rows scalar)
product_of (type.Matrix columns rows scalar) (type.Vector size right_scalar) = Built (type.Vector rows scalar)
product_of (type.Vector size scalar) (type.Matrix columns rows right_scalar) = Built (type.Vector columns right_scalar)
product_of (type.Scalar scalar) _ = AsRight
product_of _ (type.Scalar scalar) = AsLeft
product_of (type.Vector size scalar) (type.Vector right_size right_scalar) = AsLeft
product_of (type.CooperativeMatrix columns rows scalar role) (type.CooperativeMatrix right_columns right_rows right_scalar right_role) =
    Built (type.CooperativeMatrix right_columns rows scalar role)
product_of _ _ = NoProduct

abbrev pub product_type : Product → TypeResolution → TypeResolution → Outcome
product_type AsLeft left right = Given left
product_type AsRight left right = Given right
product_type (Built inner) left right = Given (Value inner)
product_type NoProduct left right = Refused IncompatibleOperands

-- a conversion to a kind, and to a width if one is given; a matrix keeps its kind
abbrev pub cast_type : ScalarKind → Option ℕ → TypeInner → Outcome
cast_type kind convert (type.Scalar old) = Given (Value (type.Scalar (scalar kind (unwrap_or convert old.width))))
cast_type kind convert (type.Vector size old) = Given (Value (type.Vector size (scalar kind (unwrap_or convert old.width))))
cast_type kind convert (type.Matrix columns rows old) = Given
    (Value (type.Matrix columns rows (scalar old.kind (unwrap_or convert old.width))))
cast_type kind convert _ = Refused IncompatibleOperands

module _ (types : List «Type») where
  abbrev pub product : TypeResolution → TypeResolution → Outcome
  product left right = at_shape types left (λ left_inner. at_shape types right
      (λ right_inner. product_type (product_of left_inner right_inner) left right))

  -- the type of an operation that depends only on its left operand
  abbrev pub left_type : BinaryOperator → TypeResolution → Outcome
  left_type operator.Equal left = at_shape types left test_type
  left_type operator.NotEqual left = at_shape types left test_type
  left_type operator.Less left = at_shape types left test_type
  left_type operator.LessEqual left = at_shape types left test_type
  left_type operator.Greater left = at_shape types left test_type
  left_type operator.GreaterEqual left = at_shape types left test_type
  left_type operator.LogicalAnd left = at_shape types left logical_type
  left_type operator.LogicalOr left = at_shape types left logical_type
  left_type _ left = Given left
