-- Operators as WGSL spells them.
use Rattle.std.specs.Prelude.{ℕ, List, codes}
use Rattle.shader_ir.specs.declared.operators.BinaryOperator.{BinaryOperator}
use Rattle.shader_ir.specs.declared.operators.BinaryOperator.TheVariants as binary
use Rattle.shader_ir.specs.declared.operators.DerivativeAxis.{DerivativeAxis}
use Rattle.shader_ir.specs.declared.operators.DerivativeAxis.TheVariants as axes
use Rattle.shader_ir.specs.declared.operators.DerivativeControl.{DerivativeControl}
use Rattle.shader_ir.specs.declared.operators.DerivativeControl.TheVariants as controls
use Rattle.shader_ir.specs.declared.operators.RelationalFunction.{RelationalFunction}
use Rattle.shader_ir.specs.declared.operators.RelationalFunction.TheVariants as relational
use Rattle.shader_ir.specs.declared.operators.SwizzleComponent.{SwizzleComponent}
use Rattle.shader_ir.specs.declared.operators.SwizzleComponent.TheVariants as components
use Rattle.shader_ir.specs.declared.operators.UnaryOperator.{UnaryOperator}
use Rattle.shader_ir.specs.declared.operators.UnaryOperator.TheVariants as unary

abbrev pub unary_word : UnaryOperator → List ℕ
unary_word unary.Negate = codes "-"
unary_word unary.LogicalNot = codes "!"
unary_word unary.BitwiseNot = codes "~"

abbrev pub binary_word : BinaryOperator → List ℕ
binary_word binary.Add = codes "+"
binary_word binary.Subtract = codes "-"
binary_word binary.Multiply = codes "*"
binary_word binary.Divide = codes "/"
binary_word binary.Modulo = codes "%"
binary_word binary.Equal = codes "=="
binary_word binary.NotEqual = codes "!="
binary_word binary.Less = codes "<"
binary_word binary.LessEqual = codes "<="
binary_word binary.Greater = codes ">"
binary_word binary.GreaterEqual = codes ">="
binary_word binary.And = codes "&"
binary_word binary.ExclusiveOr = codes "^"
binary_word binary.InclusiveOr = codes "|"
binary_word binary.LogicalAnd = codes "&&"
binary_word binary.LogicalOr = codes "||"
binary_word binary.ShiftLeft = codes "<<"
binary_word binary.ShiftRight = codes ">>"

abbrev pub relational_word : RelationalFunction → List ℕ
relational_word relational.All = codes "all"
relational_word relational.Any = codes "any"
relational_word relational.IsNan = codes "isNan"
relational_word relational.IsInf = codes "isInf"

-- a derivative along an axis, with the precision that is asked for
abbrev pub derivative_word : DerivativeAxis → DerivativeControl → List ℕ
derivative_word axes.X controls.None = codes "dpdx"
derivative_word axes.X controls.Coarse = codes "dpdxCoarse"
derivative_word axes.X controls.Fine = codes "dpdxFine"
derivative_word axes.Y controls.None = codes "dpdy"
derivative_word axes.Y controls.Coarse = codes "dpdyCoarse"
derivative_word axes.Y controls.Fine = codes "dpdyFine"
derivative_word axes.Width controls.None = codes "fwidth"
derivative_word axes.Width controls.Coarse = codes "fwidthCoarse"
derivative_word axes.Width controls.Fine = codes "fwidthFine"

abbrev pub component_word : SwizzleComponent → List ℕ
component_word components.X = codes "x"
component_word components.Y = codes "y"
component_word components.Z = codes "z"
component_word components.W = codes "w"
