-- The names of operators, built-in functions and modes of expressions in the JSON of modules.
use Rattle.std.specs.Prelude.{ℕ, List, codes}
use Rattle.shader_ir.specs.declared.operators.BinaryOperator.{BinaryOperator}
use Rattle.shader_ir.specs.declared.operators.BinaryOperator.TheVariants as binary
use Rattle.shader_ir.specs.declared.operators.DerivativeAxis.{DerivativeAxis}
use Rattle.shader_ir.specs.declared.operators.DerivativeAxis.TheVariants as axes
use Rattle.shader_ir.specs.declared.operators.DerivativeControl.{DerivativeControl}
use Rattle.shader_ir.specs.declared.operators.DerivativeControl.TheVariants as controls
use Rattle.shader_ir.specs.declared.operators.MathFunction.{MathFunction}
use Rattle.shader_ir.specs.declared.operators.MathFunction.TheVariants as f
use Rattle.shader_ir.specs.declared.operators.RelationalFunction.{RelationalFunction}
use Rattle.shader_ir.specs.declared.operators.RelationalFunction.TheVariants as relational
use Rattle.shader_ir.specs.declared.operators.SwizzleComponent.{SwizzleComponent}
use Rattle.shader_ir.specs.declared.operators.SwizzleComponent.TheVariants as components
use Rattle.shader_ir.specs.declared.operators.UnaryOperator.{UnaryOperator}
use Rattle.shader_ir.specs.declared.operators.UnaryOperator.TheVariants as unary

abbrev pub unary_name : UnaryOperator → List ℕ
unary_name unary.Negate = codes "Negate"
unary_name unary.LogicalNot = codes "LogicalNot"
unary_name unary.BitwiseNot = codes "BitwiseNot"

abbrev pub binary_name : BinaryOperator → List ℕ
binary_name binary.Add = codes "Add"
binary_name binary.Subtract = codes "Subtract"
binary_name binary.Multiply = codes "Multiply"
binary_name binary.Divide = codes "Divide"
binary_name binary.Modulo = codes "Modulo"
binary_name binary.Equal = codes "Equal"
binary_name binary.NotEqual = codes "NotEqual"
binary_name binary.Less = codes "Less"
binary_name binary.LessEqual = codes "LessEqual"
binary_name binary.Greater = codes "Greater"
binary_name binary.GreaterEqual = codes "GreaterEqual"
binary_name binary.And = codes "And"
binary_name binary.ExclusiveOr = codes "ExclusiveOr"
binary_name binary.InclusiveOr = codes "InclusiveOr"
binary_name binary.LogicalAnd = codes "LogicalAnd"
binary_name binary.LogicalOr = codes "LogicalOr"
binary_name binary.ShiftLeft = codes "ShiftLeft"
binary_name binary.ShiftRight = codes "ShiftRight"

abbrev pub axis_name : DerivativeAxis → List ℕ
axis_name axes.X = codes "X"
axis_name axes.Y = codes "Y"
axis_name axes.Width = codes "Width"

abbrev pub control_name : DerivativeControl → List ℕ
control_name controls.Coarse = codes "Coarse"
control_name controls.Fine = codes "Fine"
control_name controls.None = codes "None"

abbrev pub relational_name : RelationalFunction → List ℕ
relational_name relational.All = codes "All"
relational_name relational.Any = codes "Any"
relational_name relational.IsNan = codes "IsNan"
relational_name relational.IsInf = codes "IsInf"

abbrev pub component_name : SwizzleComponent → List ℕ
component_name components.X = codes "X"
component_name components.Y = codes "Y"
component_name components.Z = codes "Z"
component_name components.W = codes "W"

abbrev pub function_name : MathFunction → List ℕ
function_name f.Abs = codes "Abs"
function_name f.Min = codes "Min"
function_name f.Max = codes "Max"
function_name f.Clamp = codes "Clamp"
function_name f.Saturate = codes "Saturate"
function_name f.Cos = codes "Cos"
function_name f.Cosh = codes "Cosh"
function_name f.Sin = codes "Sin"
function_name f.Sinh = codes "Sinh"
function_name f.Tan = codes "Tan"
function_name f.Tanh = codes "Tanh"
function_name f.Acos = codes "Acos"
function_name f.Asin = codes "Asin"
function_name f.Atan = codes "Atan"
function_name f.Atan2 = codes "Atan2"
function_name f.Asinh = codes "Asinh"
function_name f.Acosh = codes "Acosh"
function_name f.Atanh = codes "Atanh"
function_name f.Radians = codes "Radians"
function_name f.Degrees = codes "Degrees"
function_name f.Ceil = codes "Ceil"
function_name f.Floor = codes "Floor"
function_name f.Round = codes "Round"
function_name f.Fract = codes "Fract"
function_name f.Trunc = codes "Trunc"
function_name f.Modf = codes "Modf"
function_name f.Frexp = codes "Frexp"
function_name f.Ldexp = codes "Ldexp"
function_name f.Exp = codes "Exp"
function_name f.Exp2 = codes "Exp2"
function_name f.Log = codes "Log"
function_name f.Log2 = codes "Log2"
function_name f.Pow = codes "Pow"
function_name f.Dot = codes "Dot"
function_name f.Dot4I8Packed = codes "Dot4I8Packed"
function_name f.Dot4U8Packed = codes "Dot4U8Packed"
function_name f.Outer = codes "Outer"
function_name f.Cross = codes "Cross"
function_name f.Distance = codes "Distance"
function_name f.Length = codes "Length"
function_name f.Normalize = codes "Normalize"
function_name f.FaceForward = codes "FaceForward"
function_name f.Reflect = codes "Reflect"
function_name f.Refract = codes "Refract"
function_name f.Sign = codes "Sign"
function_name f.Fma = codes "Fma"
function_name f.Mix = codes "Mix"
function_name f.Step = codes "Step"
function_name f.SmoothStep = codes "SmoothStep"
function_name f.Sqrt = codes "Sqrt"
function_name f.InverseSqrt = codes "InverseSqrt"
function_name f.Inverse = codes "Inverse"
function_name f.Transpose = codes "Transpose"
function_name f.Determinant = codes "Determinant"
function_name f.QuantizeToF16 = codes "QuantizeToF16"
function_name f.CountTrailingZeros = codes "CountTrailingZeros"
function_name f.CountLeadingZeros = codes "CountLeadingZeros"
function_name f.CountOneBits = codes "CountOneBits"
function_name f.ReverseBits = codes "ReverseBits"
function_name f.ExtractBits = codes "ExtractBits"
function_name f.InsertBits = codes "InsertBits"
function_name f.FirstTrailingBit = codes "FirstTrailingBit"
function_name f.FirstLeadingBit = codes "FirstLeadingBit"
function_name f.Pack4x8snorm = codes "Pack4x8snorm"
function_name f.Pack4x8unorm = codes "Pack4x8unorm"
function_name f.Pack2x16snorm = codes "Pack2x16snorm"
function_name f.Pack2x16unorm = codes "Pack2x16unorm"
function_name f.Pack2x16float = codes "Pack2x16float"
function_name f.Pack4xI8 = codes "Pack4xI8"
function_name f.Pack4xU8 = codes "Pack4xU8"
function_name f.Pack4xI8Clamp = codes "Pack4xI8Clamp"
function_name f.Pack4xU8Clamp = codes "Pack4xU8Clamp"
function_name f.Unpack4x8snorm = codes "Unpack4x8snorm"
function_name f.Unpack4x8unorm = codes "Unpack4x8unorm"
function_name f.Unpack2x16snorm = codes "Unpack2x16snorm"
function_name f.Unpack2x16unorm = codes "Unpack2x16unorm"
function_name f.Unpack2x16float = codes "Unpack2x16float"
function_name f.Unpack4xI8 = codes "Unpack4xI8"
function_name f.Unpack4xU8 = codes "Unpack4xU8"
