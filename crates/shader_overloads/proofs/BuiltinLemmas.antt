-- Properties of each built-in function: the arguments of its rules, and its group.
use Rattle.std.proofs.Common.{◌≡◌, zero, suc, Bool, true, false, not, List, [], ◌∷◌, Option, Some, refl, arith}
use Rattle.std.specs.List.{All, list_all}
use Rattle.std.specs.Option.{option_or}
use Rattle.std.proofs.lemmas.Bool.{and_parts, both_ways}
use Rattle.shader_ir.specs.declared.operators.MathFunction.{MathFunction}
use Rattle.shader_ir.specs.declared.operators.MathFunction.TheVariants as f
use Rattle.shader_ir.specs.declared.types.«Type».{«Type»}
use Rattle.shader_ir.specs.declared.types.TypeInner.{TypeInner}
use Rattle.shader_ir.specs.declared.types.TypeInner.TheVariants.{Scalar, Vector, Matrix}
use Rattle.shader_ir.specs.declared.proc.type_resolution.TypeResolution.{TypeResolution}
use Rattle.shader_ir.specs.declared.proc.type_resolution.TypeResolution.TheVariants.{Handle, Value}
use Rattle.shader_ir.specs.Scalars.{named_scalars}
use Rattle.shader_overloads.specs.declared.rule.Rule.{Rule}
use Rattle.shader_overloads.specs.AcceptanceLaws.{is_named}
use Rattle.shader_overloads.specs.BuiltinGroups.{float_functions, geometric_functions, is_among, is_listed, matrix_functions}
use Rattle.shader_overloads.specs.BuiltinGroups.{number_functions, packing_functions, rules_if, splitting_functions}
use Rattle.shader_overloads.specs.Builtins.{rules_of, ldexp_rules, outer_rules, refract_rules, transpose_rules}
use Rattle.shader_overloads.specs.Builtins.{extract_bits_rules, insert_bits_rules, mix_rules}
use Rattle.shader_overloads.specs.Remaining.{ArgumentFits, RuleFits, RulesFit}
use Rattle.shader_overloads.specs.Rules.{regular_rules}

-- ---- the arguments of the rules

-- the type is a scalar, vector or matrix of a named scalar
abbrev pub is_named_inner : TypeInner → Bool
is_named_inner (Scalar a) = is_named a
is_named_inner (Vector n a) = is_named a
is_named_inner (Matrix m n a) = is_named a
is_named_inner _ = false

abbrev pub is_named_argument : TypeResolution → Bool
is_named_argument (Handle handle) = false
is_named_argument (Value inner) = is_named_inner inner

abbrev pub is_named_rule : Rule → Bool
is_named_rule rule = list_all is_named_argument rule.arguments

-- all arguments of the rules of the built-in functions are over named scalars
pub rules_named : (function : MathFunction) → list_all is_named_rule (rules_of function) ≡ true
unfolding regular_rules named_scalars ldexp_rules outer_rules refract_rules transpose_rules extract_bits_rules insert_bits_rules mix_rules
rules_named f.Abs = refl
rules_named f.Sign = refl
rules_named f.Min = refl
rules_named f.Max = refl
rules_named f.Clamp = refl
rules_named f.Sin = refl
rules_named f.Cos = refl
rules_named f.Tan = refl
rules_named f.Asin = refl
rules_named f.Acos = refl
rules_named f.Atan = refl
rules_named f.Sinh = refl
rules_named f.Cosh = refl
rules_named f.Tanh = refl
rules_named f.Asinh = refl
rules_named f.Acosh = refl
rules_named f.Atanh = refl
rules_named f.Saturate = refl
rules_named f.Radians = refl
rules_named f.Degrees = refl
rules_named f.Ceil = refl
rules_named f.Floor = refl
rules_named f.Round = refl
rules_named f.Fract = refl
rules_named f.Trunc = refl
rules_named f.Exp = refl
rules_named f.Exp2 = refl
rules_named f.Log = refl
rules_named f.Log2 = refl
rules_named f.Sqrt = refl
rules_named f.InverseSqrt = refl
rules_named f.Atan2 = refl
rules_named f.Pow = refl
rules_named f.Step = refl
rules_named f.Fma = refl
rules_named f.SmoothStep = refl
rules_named f.CountTrailingZeros = refl
rules_named f.CountLeadingZeros = refl
rules_named f.CountOneBits = refl
rules_named f.ReverseBits = refl
rules_named f.FirstTrailingBit = refl
rules_named f.FirstLeadingBit = refl
rules_named f.Pack4x8snorm = refl
rules_named f.Pack4x8unorm = refl
rules_named f.Pack2x16snorm = refl
rules_named f.Pack2x16unorm = refl
rules_named f.Pack2x16float = refl
rules_named f.Pack4xI8 = refl
rules_named f.Pack4xI8Clamp = refl
rules_named f.Pack4xU8 = refl
rules_named f.Pack4xU8Clamp = refl
rules_named f.Unpack4x8snorm = refl
rules_named f.Unpack4x8unorm = refl
rules_named f.Unpack2x16snorm = refl
rules_named f.Unpack2x16unorm = refl
rules_named f.Unpack2x16float = refl
rules_named f.Unpack4xI8 = refl
rules_named f.Unpack4xU8 = refl
rules_named f.Dot4I8Packed = refl
rules_named f.Dot4U8Packed = refl
rules_named f.Dot = refl
rules_named f.Cross = refl
rules_named f.Length = refl
rules_named f.Normalize = refl
rules_named f.Inverse = refl
rules_named f.Determinant = refl
rules_named f.QuantizeToF16 = refl
rules_named f.Modf = refl
rules_named f.Frexp = refl
rules_named f.Distance = refl
rules_named f.FaceForward = refl
rules_named f.Reflect = refl
rules_named f.Ldexp = refl
rules_named f.Outer = refl
rules_named f.Refract = refl
rules_named f.Transpose = refl
rules_named f.ExtractBits = refl
rules_named f.InsertBits = refl
rules_named f.Mix = refl

inner_fits : (list : List «Type») (inner : TypeInner) → is_named_inner inner ≡ true → ArgumentFits list (Value inner)
inner_fits list (Scalar s) e = (((λ k d h. absurd (omega arith)), tt), tt)
inner_fits list (Vector size s) e = (((λ k d h. absurd (omega arith)), tt), tt)
inner_fits list (Matrix columns rows s) e = (((λ k d h. absurd (omega arith)), tt), tt)
inner_fits list inner e = absurd (both_ways false refl e)

argument_fits : (list : List «Type») (argument : TypeResolution) → is_named_argument argument ≡ true → ArgumentFits list argument
argument_fits list (Value inner) e = inner_fits list inner e
argument_fits list (Handle handle) e = absurd (both_ways false refl e)

all_from_test : {X : Type 0} (P : X → Type 0) (p : X → Bool) → ((x : X) → p x ≡ true → P x) → (xs : List X) →
    list_all p xs ≡ true → All P xs
all_from_test P p each [] e k d h = absurd (omega arith)
all_from_test P p each (x ∷ xs) e zero d h = each x (and_parts (p x) (list_all p xs) e).0
all_from_test P p each (x ∷ xs) e (suc k) d h = all_from_test P p each xs (and_parts (p x) (list_all p xs) e).1 k d (omega arith)

-- the rules of the built-in functions therefore fit any arena of types
pub rules_fit : (list : List «Type») (function : MathFunction) → RulesFit list (rules_of function)
rules_fit list function = record {
  each = all_from_test (RuleFits list) is_named_rule (λ rule e. all_from_test (ArgumentFits list) is_named_argument (argument_fits list)
      rule.arguments e) (rules_of function) (rules_named function);
}

-- ---- the groups

abbrev pub rules_among : List MathFunction → MathFunction → Option (List Rule)
rules_among group function = rules_if (is_among group function) function

-- a built-in function is in one of the groups, or its set is a list
pub groups_joined : (function : MathFunction)
    → option_or (option_or (option_or (option_or (option_or (rules_among float_functions function) (rules_among number_functions function))
    (rules_among packing_functions function)) (rules_among geometric_functions function)) (rules_among matrix_functions function))
    (rules_among splitting_functions function)
    ≡ rules_if (not (is_listed function)) function
groups_joined f.Ldexp = refl
groups_joined _ = refl

-- the rules of the first group that contains the function are its rules
pub joined : (function : MathFunction) {floats numbers packings vectors matrices splits : Option (List Rule)}
    → floats ≡ rules_among float_functions function → numbers ≡ rules_among number_functions function
    → packings ≡ rules_among packing_functions function → vectors ≡ rules_among geometric_functions function
    → matrices ≡ rules_among matrix_functions function → splits ≡ rules_among splitting_functions function
    → option_or (option_or (option_or (option_or (option_or floats numbers) packings) vectors) matrices) splits
    ≡ rules_if (not (is_listed function)) function
joined function one two three four five six =
    rw one (rw two (rw three (rw four (rw five (rw six (groups_joined function))))))

pub some_rules : (function : MathFunction) (test : Bool) (rules : List Rule) → Some rules ≡ rules_if test function →
    rules ≡ rules_of function
some_rules function true rules found = cc
some_rules function false rules found = absurd (cc)
