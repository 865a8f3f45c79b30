-- The built-in functions, grouped by their arguments.
use Rattle.std.specs.Prelude.{Bool, true, false, List, [], ◌∷◌, Option, Some, None}
use Rattle.std.specs.List.{list_any}
use Rattle.shader_ir.specs.contracts.operators.MathFunctionPartialEq.TheImpl as functions
use Rattle.shader_ir.specs.declared.operators.MathFunction.{MathFunction}
use Rattle.shader_ir.specs.declared.operators.MathFunction.TheVariants as f
use Rattle.shader_overloads.specs.declared.rule.Rule.{Rule}
use Rattle.shader_overloads.specs.Builtins.{rules_of}

-- floats, component by component
abbrev pub float_functions : List MathFunction
float_functions = f.Sin ∷ f.Cos ∷ f.Tan ∷ f.Asin ∷ f.Acos ∷ f.Atan ∷ f.Sinh ∷ f.Cosh ∷ f.Tanh ∷ f.Asinh ∷ f.Acosh ∷ f.Atanh ∷ f.Saturate
    ∷ f.Radians ∷ f.Degrees ∷ f.Ceil ∷ f.Floor ∷ f.Round ∷ f.Fract ∷ f.Trunc ∷ f.Exp ∷ f.Exp2 ∷ f.Log ∷ f.Log2 ∷ f.Sqrt ∷ f.InverseSqrt
    ∷ f.Atan2 ∷ f.Pow ∷ f.Step ∷ f.Fma ∷ f.SmoothStep ∷ f.QuantizeToF16 ∷ []

-- numbers or integers, component by component
abbrev pub number_functions : List MathFunction
number_functions = f.Abs ∷ f.Sign ∷ f.Min ∷ f.Max ∷ f.Clamp ∷ f.CountTrailingZeros ∷ f.CountLeadingZeros ∷ f.CountOneBits ∷ f.ReverseBits
    ∷ f.FirstTrailingBit ∷ f.FirstLeadingBit ∷ []

-- packing numbers into a word, and unpacking them
abbrev pub packing_functions : List MathFunction
packing_functions = f.Pack4x8snorm ∷ f.Pack4x8unorm ∷ f.Pack2x16snorm ∷ f.Pack2x16unorm ∷ f.Pack2x16float ∷ f.Pack4xI8 ∷ f.Pack4xI8Clamp
    ∷ f.Pack4xU8 ∷ f.Pack4xU8Clamp ∷ f.Unpack4x8snorm ∷ f.Unpack4x8unorm ∷ f.Unpack2x16snorm ∷ f.Unpack2x16unorm ∷ f.Unpack2x16float
    ∷ f.Unpack4xI8 ∷ f.Unpack4xU8 ∷ f.Dot4I8Packed ∷ f.Dot4U8Packed ∷ []

-- products, lengths and directions of vectors
abbrev pub geometric_functions : List MathFunction
geometric_functions = f.Dot ∷ f.Cross ∷ f.Distance ∷ f.Length ∷ f.Normalize ∷ f.FaceForward ∷ f.Reflect ∷ []

-- square matrices
abbrev pub matrix_functions : List MathFunction
matrix_functions = f.Inverse ∷ f.Determinant ∷ []

-- floats that are split in two
abbrev pub splitting_functions : List MathFunction
splitting_functions = f.Modf ∷ f.Frexp ∷ []

abbrev pub same_function : MathFunction → MathFunction → Bool
same_function = functions.ghosts.eq

abbrev pub is_among : List MathFunction → MathFunction → Bool
is_among group function = list_any (same_function function) group

-- whether the overload set of a built-in function is a list
abbrev pub is_listed : MathFunction → Bool
is_listed = is_among (f.Ldexp ∷ f.Outer ∷ f.Refract ∷ f.Transpose ∷ f.ExtractBits ∷ f.InsertBits ∷ f.Mix ∷ [])

-- the rules of a built-in function, if it passes a test
abbrev pub rules_if : Bool → MathFunction → Option (List Rule)
rules_if true function = Some (rules_of function)
rules_if false function = None
