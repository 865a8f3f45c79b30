-- The names of built-in functions.
use Rattle.std.specs.Prelude.{ℕ, List, [], ◌∷◌, codes, Option, find}
use Rattle.std.specs.Str.{bytes_eq}
use Rattle.shader_ir.specs.declared.operators.MathFunction.{MathFunction}
use Rattle.shader_ir.specs.declared.operators.MathFunction.TheVariants as f

abbrev pub builtin_text : MathFunction → List ℕ
builtin_text f.Abs = codes "Abs"
builtin_text f.Min = codes "Min"
builtin_text f.Max = codes "Max"
builtin_text f.Clamp = codes "Clamp"
builtin_text f.Saturate = codes "Saturate"
builtin_text f.Cos = codes "Cos"
builtin_text f.Cosh = codes "Cosh"
builtin_text f.Sin = codes "Sin"
builtin_text f.Sinh = codes "Sinh"
builtin_text f.Tan = codes "Tan"
builtin_text f.Tanh = codes "Tanh"
builtin_text f.Acos = codes "Acos"
builtin_text f.Asin = codes "Asin"
builtin_text f.Atan = codes "Atan"
builtin_text f.Atan2 = codes "Atan2"
builtin_text f.Asinh = codes "Asinh"
builtin_text f.Acosh = codes "Acosh"
builtin_text f.Atanh = codes "Atanh"
builtin_text f.Radians = codes "Radians"
builtin_text f.Degrees = codes "Degrees"
builtin_text f.Ceil = codes "Ceil"
builtin_text f.Floor = codes "Floor"
builtin_text f.Round = codes "Round"
builtin_text f.Fract = codes "Fract"
builtin_text f.Trunc = codes "Trunc"
builtin_text f.Modf = codes "Modf"
builtin_text f.Frexp = codes "Frexp"
builtin_text f.Ldexp = codes "Ldexp"
builtin_text f.Exp = codes "Exp"
builtin_text f.Exp2 = codes "Exp2"
builtin_text f.Log = codes "Log"
builtin_text f.Log2 = codes "Log2"
builtin_text f.Pow = codes "Pow"
builtin_text f.Dot = codes "Dot"
builtin_text f.Dot4I8Packed = codes "Dot4I8Packed"
builtin_text f.Dot4U8Packed = codes "Dot4U8Packed"
builtin_text f.Outer = codes "Outer"
builtin_text f.Cross = codes "Cross"
builtin_text f.Distance = codes "Distance"
builtin_text f.Length = codes "Length"
builtin_text f.Normalize = codes "Normalize"
builtin_text f.FaceForward = codes "FaceForward"
builtin_text f.Reflect = codes "Reflect"
builtin_text f.Refract = codes "Refract"
builtin_text f.Sign = codes "Sign"
builtin_text f.Fma = codes "Fma"
builtin_text f.Mix = codes "Mix"
builtin_text f.Step = codes "Step"
builtin_text f.SmoothStep = codes "SmoothStep"
builtin_text f.Sqrt = codes "Sqrt"
builtin_text f.InverseSqrt = codes "InverseSqrt"
builtin_text f.Inverse = codes "Inverse"
builtin_text f.Transpose = codes "Transpose"
builtin_text f.Determinant = codes "Determinant"
builtin_text f.QuantizeToF16 = codes "QuantizeToF16"
builtin_text f.CountTrailingZeros = codes "CountTrailingZeros"
builtin_text f.CountLeadingZeros = codes "CountLeadingZeros"
builtin_text f.CountOneBits = codes "CountOneBits"
builtin_text f.ReverseBits = codes "ReverseBits"
builtin_text f.ExtractBits = codes "ExtractBits"
builtin_text f.InsertBits = codes "InsertBits"
builtin_text f.FirstTrailingBit = codes "FirstTrailingBit"
builtin_text f.FirstLeadingBit = codes "FirstLeadingBit"
builtin_text f.Pack4x8snorm = codes "Pack4x8snorm"
builtin_text f.Pack4x8unorm = codes "Pack4x8unorm"
builtin_text f.Pack2x16snorm = codes "Pack2x16snorm"
builtin_text f.Pack2x16unorm = codes "Pack2x16unorm"
builtin_text f.Pack2x16float = codes "Pack2x16float"
builtin_text f.Pack4xI8 = codes "Pack4xI8"
builtin_text f.Pack4xU8 = codes "Pack4xU8"
builtin_text f.Pack4xI8Clamp = codes "Pack4xI8Clamp"
builtin_text f.Pack4xU8Clamp = codes "Pack4xU8Clamp"
builtin_text f.Unpack4x8snorm = codes "Unpack4x8snorm"
builtin_text f.Unpack4x8unorm = codes "Unpack4x8unorm"
builtin_text f.Unpack2x16snorm = codes "Unpack2x16snorm"
builtin_text f.Unpack2x16unorm = codes "Unpack2x16unorm"
builtin_text f.Unpack2x16float = codes "Unpack2x16float"
builtin_text f.Unpack4xI8 = codes "Unpack4xI8"
builtin_text f.Unpack4xU8 = codes "Unpack4xU8"

abbrev pub named_builtins : List MathFunction
named_builtins =
    f.Abs ∷ f.Min ∷ f.Max ∷ f.Clamp ∷ f.Saturate ∷ f.Cos ∷ f.Cosh ∷ f.Sin ∷ f.Sinh ∷ f.Tan ∷ f.Tanh ∷ f.Acos ∷ f.Asin
    ∷ f.Atan ∷ f.Atan2 ∷ f.Asinh ∷ f.Acosh ∷ f.Atanh ∷ f.Radians ∷ f.Degrees ∷ f.Ceil ∷ f.Floor ∷ f.Round ∷ f.Fract
    ∷ f.Trunc ∷ f.Modf ∷ f.Frexp ∷ f.Ldexp ∷ f.Exp ∷ f.Exp2 ∷ f.Log ∷ f.Log2 ∷ f.Pow ∷ f.Dot ∷ f.Dot4I8Packed
    ∷ f.Dot4U8Packed ∷ f.Outer ∷ f.Cross ∷ f.Distance ∷ f.Length ∷ f.Normalize ∷ f.FaceForward ∷ f.Reflect ∷ f.Refract
    ∷ f.Sign ∷ f.Fma ∷ f.Mix ∷ f.Step ∷ f.SmoothStep ∷ f.Sqrt ∷ f.InverseSqrt ∷ f.Inverse ∷ f.Transpose ∷ f.Determinant
    ∷ f.QuantizeToF16 ∷ f.CountTrailingZeros ∷ f.CountLeadingZeros ∷ f.CountOneBits ∷ f.ReverseBits ∷ f.ExtractBits
    ∷ f.InsertBits ∷ f.FirstTrailingBit ∷ f.FirstLeadingBit ∷ f.Pack4x8snorm ∷ f.Pack4x8unorm ∷ f.Pack2x16snorm
    ∷ f.Pack2x16unorm ∷ f.Pack2x16float ∷ f.Pack4xI8 ∷ f.Pack4xU8 ∷ f.Pack4xI8Clamp ∷ f.Pack4xU8Clamp
    ∷ f.Unpack4x8snorm ∷ f.Unpack4x8unorm ∷ f.Unpack2x16snorm ∷ f.Unpack2x16unorm ∷ f.Unpack2x16float ∷ f.Unpack4xI8
    ∷ f.Unpack4xU8 ∷ []

-- the built-in function that a word names
abbrev pub builtin_of : List ℕ → Option MathFunction
builtin_of word = find (λ function. bytes_eq (builtin_text function) word) named_builtins
