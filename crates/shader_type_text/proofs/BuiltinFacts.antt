-- Facts about the name of each built-in function.
use Rattle.std.proofs.Common.{◌≡◌, ℕ, false, List, Some, refl}
use Rattle.std.specs.List.{list_any}
use Rattle.shader_ir.specs.declared.operators.MathFunction.{MathFunction}
use Rattle.shader_ir.specs.declared.operators.MathFunction.TheVariants as f
use Rattle.shader_type_text.specs.Builtins.{builtin_of, builtin_text, named_builtins}
use Rattle.shader_type_text.proofs.LookupLemmas.{found_is}
use Rattle.shader_type_text.proofs.Separators.{is_break}

-- a name names its built-in function, and contains no space and no end of line
abbrev NameFacts : MathFunction → Type 0
NameFacts function = (builtin_of (builtin_text function) ≡ Some function) × (list_any is_break (builtin_text function) ≡ false)

pub builtin_facts : (function : MathFunction) → NameFacts function
builtin_facts function = elim function as (λ g. NameFacts g) [
  | f.Abs ↦ (refl, refl)
  | f.Min ↦ (refl, refl)
  | f.Max ↦ (refl, refl)
  | f.Clamp ↦ (refl, refl)
  | f.Saturate ↦ (refl, refl)
  | f.Cos ↦ (refl, refl)
  | f.Cosh ↦ (refl, refl)
  | f.Sin ↦ (refl, refl)
  | f.Sinh ↦ (refl, refl)
  | f.Tan ↦ (refl, refl)
  | f.Tanh ↦ (refl, refl)
  | f.Acos ↦ (refl, refl)
  | f.Asin ↦ (refl, refl)
  | f.Atan ↦ (refl, refl)
  | f.Atan2 ↦ (refl, refl)
  | f.Asinh ↦ (refl, refl)
  | f.Acosh ↦ (refl, refl)
  | f.Atanh ↦ (refl, refl)
  | f.Radians ↦ (refl, refl)
  | f.Degrees ↦ (refl, refl)
  | f.Ceil ↦ (refl, refl)
  | f.Floor ↦ (refl, refl)
  | f.Round ↦ (refl, refl)
  | f.Fract ↦ (refl, refl)
  | f.Trunc ↦ (refl, refl)
  | f.Modf ↦ (refl, refl)
  | f.Frexp ↦ (refl, refl)
  | f.Ldexp ↦ (refl, refl)
  | f.Exp ↦ (refl, refl)
  | f.Exp2 ↦ (refl, refl)
  | f.Log ↦ (refl, refl)
  | f.Log2 ↦ (refl, refl)
  | f.Pow ↦ (refl, refl)
  | f.Dot ↦ (refl, refl)
  | f.Dot4I8Packed ↦ (refl, refl)
  | f.Dot4U8Packed ↦ (refl, refl)
  | f.Outer ↦ (refl, refl)
  | f.Cross ↦ (refl, refl)
  | f.Distance ↦ (refl, refl)
  | f.Length ↦ (refl, refl)
  | f.Normalize ↦ (refl, refl)
  | f.FaceForward ↦ (refl, refl)
  | f.Reflect ↦ (refl, refl)
  | f.Refract ↦ (refl, refl)
  | f.Sign ↦ (refl, refl)
  | f.Fma ↦ (refl, refl)
  | f.Mix ↦ (refl, refl)
  | f.Step ↦ (refl, refl)
  | f.SmoothStep ↦ (refl, refl)
  | f.Sqrt ↦ (refl, refl)
  | f.InverseSqrt ↦ (refl, refl)
  | f.Inverse ↦ (refl, refl)
  | f.Transpose ↦ (refl, refl)
  | f.Determinant ↦ (refl, refl)
  | f.QuantizeToF16 ↦ (refl, refl)
  | f.CountTrailingZeros ↦ (refl, refl)
  | f.CountLeadingZeros ↦ (refl, refl)
  | f.CountOneBits ↦ (refl, refl)
  | f.ReverseBits ↦ (refl, refl)
  | f.ExtractBits ↦ (refl, refl)
  | f.InsertBits ↦ (refl, refl)
  | f.FirstTrailingBit ↦ (refl, refl)
  | f.FirstLeadingBit ↦ (refl, refl)
  | f.Pack4x8snorm ↦ (refl, refl)
  | f.Pack4x8unorm ↦ (refl, refl)
  | f.Pack2x16snorm ↦ (refl, refl)
  | f.Pack2x16unorm ↦ (refl, refl)
  | f.Pack2x16float ↦ (refl, refl)
  | f.Pack4xI8 ↦ (refl, refl)
  | f.Pack4xU8 ↦ (refl, refl)
  | f.Pack4xI8Clamp ↦ (refl, refl)
  | f.Pack4xU8Clamp ↦ (refl, refl)
  | f.Unpack4x8snorm ↦ (refl, refl)
  | f.Unpack4x8unorm ↦ (refl, refl)
  | f.Unpack2x16snorm ↦ (refl, refl)
  | f.Unpack2x16unorm ↦ (refl, refl)
  | f.Unpack2x16float ↦ (refl, refl)
  | f.Unpack4xI8 ↦ (refl, refl)
  | f.Unpack4xU8 ↦ (refl, refl)
]

-- a word that names a built-in function is its name
pub name_is : (word : List ℕ) (function : MathFunction) → builtin_of word ≡ Some function → word ≡ builtin_text function
name_is word function found = found_is builtin_text named_builtins word function found
