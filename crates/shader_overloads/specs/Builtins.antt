-- The rules of each built-in function, written out.
use Rattle.std.specs.Prelude.{ℕ, Bool, List, [], ◌∷◌, ◌++◌, Option, map, slice_get}
use Rattle.std.specs.List.{flat_map}
use Rattle.shader_ir.specs.declared.operators.MathFunction.{MathFunction}
use Rattle.shader_ir.specs.declared.operators.MathFunction.TheVariants as f
use Rattle.shader_ir.specs.declared.scalar.Scalar.{Scalar}
use Rattle.shader_ir.specs.declared.scalar.ScalarKind.{ScalarKind}
use Rattle.shader_ir.specs.declared.scalar.ScalarKind.TheVariants.{Sint, Uint, Float, AbstractFloat}
use Rattle.shader_ir.specs.declared.scalar.VectorSize.{VectorSize}
use Rattle.shader_ir.specs.declared.scalar.VectorSize.TheVariants.{Bi, Tri, Quad}
use Rattle.shader_ir.specs.declared.types.«Type».{«Type»}
use Rattle.shader_ir.specs.declared.types.TypeInner.{TypeInner}
use Rattle.shader_ir.specs.declared.types.TypeInner.TheVariants as types
use Rattle.shader_ir.specs.declared.proc.type_resolution.TypeResolution.TheVariants as resolutions
use Rattle.shader_ir.specs.Scalars.{scalar, abstract_int, abstract_float, integers, floats}
use Rattle.shader_overloads.specs.declared.constructor_set.ConstructorSize.{ConstructorSize}
use Rattle.shader_overloads.specs.declared.constructor_set.ConstructorSize.TheVariants as sizes
use Rattle.shader_overloads.specs.declared.regular.ConclusionRule.TheVariants as gives
use Rattle.shader_overloads.specs.declared.rule.Conclusion.TheVariants.{Value}
use Rattle.shader_overloads.specs.declared.rule.Rule.{Rule}
use Rattle.shader_overloads.specs.Rules.{regular_rules}
use Rattle.shader_overloads.specs.Remaining.{accepts, list_accepts, remaining, supplying}

-- ---- constructors and scalars, in the order of the rules

abbrev pub vectors : List ConstructorSize
vectors = sizes.Vector Bi ∷ sizes.Vector Tri ∷ sizes.Vector Quad ∷ []

abbrev pub scalars_and_vectors : List ConstructorSize
scalars_and_vectors = sizes.Scalar ∷ vectors

abbrev pub square_matrices : List ConstructorSize
square_matrices = sizes.Matrix Bi Bi ∷ sizes.Matrix Tri Tri ∷ sizes.Matrix Quad Quad ∷ []

abbrev pub all_floats : List Scalar
all_floats = abstract_float ∷ floats

abbrev pub numeric : List Scalar
numeric = abstract_int ∷ abstract_float ∷ (integers ++ floats)

abbrev pub i32 : Scalar
i32 = scalar Sint 4

abbrev pub u32 : Scalar
u32 = scalar Uint 4

abbrev pub f32 : Scalar
f32 = scalar Float 4

-- the integers in the order of the lists: by width, the signed one before the unsigned
abbrev pub integers_by_width : List Scalar
integers_by_width = i32 ∷ u32 ∷ scalar Sint 2 ∷ scalar Uint 2 ∷ scalar Sint 8 ∷ scalar Uint 8 ∷ []

abbrev pub vector_sizes : List VectorSize
vector_sizes = Bi ∷ Tri ∷ Quad ∷ []

-- a scalar, and the vectors of it
abbrev pub shapes : Scalar → List TypeInner
shapes s = types.Scalar s ∷ types.Vector Bi s ∷ types.Vector Tri s ∷ types.Vector Quad s ∷ []

-- ---- the lists

abbrev pub rule : List TypeInner → TypeInner → Rule
rule arguments conclusion = record { arguments = map resolutions.Value arguments; conclusion = Value conclusion }

abbrev pub exponent_of_kind : ScalarKind → Scalar
exponent_of_kind AbstractFloat = abstract_int
exponent_of_kind _ = i32

-- the scalar of the exponent of a float: an abstract integer for the abstract float, an i32 for the others
abbrev pub exponent_of : Scalar → Scalar
exponent_of s = exponent_of_kind s.kind

-- for each float: the scalar with an exponent, and each vector with a vector of exponents of its size
unfoldable pub ldexp_rules : List Rule
ldexp_rules =
    flat_map (λ s.
    rule (types.Scalar s ∷ types.Scalar (exponent_of s) ∷ []) (types.Scalar s)
    ∷ map (λ size. rule (types.Vector size s ∷ types.Vector size (exponent_of s) ∷ []) (types.Vector size s)) vector_sizes) all_floats

-- a vector of the columns' size and one of the rows' give the matrix
unfoldable pub outer_rules : List Rule
outer_rules =
    flat_map (λ columns. flat_map (λ rows.
    map (λ s. rule (types.Vector columns s ∷ types.Vector rows s ∷ []) (types.Matrix columns rows s)) all_floats) vector_sizes) vector_sizes

-- two vectors and a scalar
unfoldable pub refract_rules : List Rule
refract_rules =
    flat_map (λ size. map (λ s. rule (types.Vector size s ∷ types.Vector size s ∷ types.Scalar s ∷ []) (types.Vector size s))
    all_floats) vector_sizes

-- a matrix gives the one with columns and rows exchanged
unfoldable pub transpose_rules : List Rule
transpose_rules =
    flat_map (λ columns. flat_map (λ rows.
    map (λ s. rule (types.Matrix columns rows s ∷ []) (types.Matrix rows columns s)) all_floats) vector_sizes) vector_sizes

-- an integer or a vector of integers, an offset and a count
unfoldable pub extract_bits_rules : List Rule
extract_bits_rules = flat_map (λ s. map (λ t. rule (t ∷ types.Scalar u32 ∷ types.Scalar u32 ∷ []) t) (shapes s)) integers_by_width

-- two integers or two vectors of integers, an offset and a count
unfoldable pub insert_bits_rules : List Rule
insert_bits_rules = flat_map (λ s. map (λ t. rule (t ∷ t ∷ types.Scalar u32 ∷ types.Scalar u32 ∷ []) t) (shapes s)) integers_by_width

-- two arguments of one type, and a third of that type or of its scalar; for scalars the two rules are the same
unfoldable pub mix_rules : List Rule
mix_rules = flat_map (λ s. flat_map (λ t. rule (t ∷ t ∷ t ∷ []) t ∷ rule (t ∷ t ∷ types.Scalar s ∷ []) t ∷ []) (shapes s)) all_floats

-- ---- the table

-- the rules of a built-in function: arguments, conclusion, constructors and scalars of a regular set, or a list
abbrev pub rules_of : MathFunction → List Rule
rules_of f.Abs = regular_rules 1 gives.ArgumentType scalars_and_vectors numeric
rules_of f.Sign = regular_rules 1 gives.ArgumentType scalars_and_vectors numeric
rules_of f.Min = regular_rules 2 gives.ArgumentType scalars_and_vectors numeric
rules_of f.Max = regular_rules 2 gives.ArgumentType scalars_and_vectors numeric
rules_of f.Clamp = regular_rules 3 gives.ArgumentType scalars_and_vectors numeric
rules_of f.Sin = regular_rules 1 gives.ArgumentType scalars_and_vectors all_floats
rules_of f.Cos = regular_rules 1 gives.ArgumentType scalars_and_vectors all_floats
rules_of f.Tan = regular_rules 1 gives.ArgumentType scalars_and_vectors all_floats
rules_of f.Asin = regular_rules 1 gives.ArgumentType scalars_and_vectors all_floats
rules_of f.Acos = regular_rules 1 gives.ArgumentType scalars_and_vectors all_floats
rules_of f.Atan = regular_rules 1 gives.ArgumentType scalars_and_vectors all_floats
rules_of f.Sinh = regular_rules 1 gives.ArgumentType scalars_and_vectors all_floats
rules_of f.Cosh = regular_rules 1 gives.ArgumentType scalars_and_vectors all_floats
rules_of f.Tanh = regular_rules 1 gives.ArgumentType scalars_and_vectors all_floats
rules_of f.Asinh = regular_rules 1 gives.ArgumentType scalars_and_vectors all_floats
rules_of f.Acosh = regular_rules 1 gives.ArgumentType scalars_and_vectors all_floats
rules_of f.Atanh = regular_rules 1 gives.ArgumentType scalars_and_vectors all_floats
rules_of f.Saturate = regular_rules 1 gives.ArgumentType scalars_and_vectors all_floats
rules_of f.Radians = regular_rules 1 gives.ArgumentType scalars_and_vectors all_floats
rules_of f.Degrees = regular_rules 1 gives.ArgumentType scalars_and_vectors all_floats
rules_of f.Ceil = regular_rules 1 gives.ArgumentType scalars_and_vectors all_floats
rules_of f.Floor = regular_rules 1 gives.ArgumentType scalars_and_vectors all_floats
rules_of f.Round = regular_rules 1 gives.ArgumentType scalars_and_vectors all_floats
rules_of f.Fract = regular_rules 1 gives.ArgumentType scalars_and_vectors all_floats
rules_of f.Trunc = regular_rules 1 gives.ArgumentType scalars_and_vectors all_floats
rules_of f.Exp = regular_rules 1 gives.ArgumentType scalars_and_vectors all_floats
rules_of f.Exp2 = regular_rules 1 gives.ArgumentType scalars_and_vectors all_floats
rules_of f.Log = regular_rules 1 gives.ArgumentType scalars_and_vectors all_floats
rules_of f.Log2 = regular_rules 1 gives.ArgumentType scalars_and_vectors all_floats
rules_of f.Sqrt = regular_rules 1 gives.ArgumentType scalars_and_vectors all_floats
rules_of f.InverseSqrt = regular_rules 1 gives.ArgumentType scalars_and_vectors all_floats
rules_of f.Atan2 = regular_rules 2 gives.ArgumentType scalars_and_vectors all_floats
rules_of f.Pow = regular_rules 2 gives.ArgumentType scalars_and_vectors all_floats
rules_of f.Step = regular_rules 2 gives.ArgumentType scalars_and_vectors all_floats
rules_of f.Fma = regular_rules 3 gives.ArgumentType scalars_and_vectors all_floats
rules_of f.SmoothStep = regular_rules 3 gives.ArgumentType scalars_and_vectors all_floats
rules_of f.CountTrailingZeros = regular_rules 1 gives.ArgumentType scalars_and_vectors integers
rules_of f.CountLeadingZeros = regular_rules 1 gives.ArgumentType scalars_and_vectors integers
rules_of f.CountOneBits = regular_rules 1 gives.ArgumentType scalars_and_vectors integers
rules_of f.ReverseBits = regular_rules 1 gives.ArgumentType scalars_and_vectors integers
rules_of f.FirstTrailingBit = regular_rules 1 gives.ArgumentType scalars_and_vectors integers
rules_of f.FirstLeadingBit = regular_rules 1 gives.ArgumentType scalars_and_vectors integers
rules_of f.Pack4x8snorm = regular_rules 1 gives.U32 (sizes.Vector Quad ∷ []) (f32 ∷ [])
rules_of f.Pack4x8unorm = regular_rules 1 gives.U32 (sizes.Vector Quad ∷ []) (f32 ∷ [])
rules_of f.Pack2x16snorm = regular_rules 1 gives.U32 (sizes.Vector Bi ∷ []) (f32 ∷ [])
rules_of f.Pack2x16unorm = regular_rules 1 gives.U32 (sizes.Vector Bi ∷ []) (f32 ∷ [])
rules_of f.Pack2x16float = regular_rules 1 gives.U32 (sizes.Vector Bi ∷ []) (f32 ∷ [])
rules_of f.Pack4xI8 = regular_rules 1 gives.U32 (sizes.Vector Quad ∷ []) (i32 ∷ [])
rules_of f.Pack4xI8Clamp = regular_rules 1 gives.U32 (sizes.Vector Quad ∷ []) (i32 ∷ [])
rules_of f.Pack4xU8 = regular_rules 1 gives.U32 (sizes.Vector Quad ∷ []) (u32 ∷ [])
rules_of f.Pack4xU8Clamp = regular_rules 1 gives.U32 (sizes.Vector Quad ∷ []) (u32 ∷ [])
rules_of f.Unpack4x8snorm = regular_rules 1 gives.Vec4F (sizes.Scalar ∷ []) (u32 ∷ [])
rules_of f.Unpack4x8unorm = regular_rules 1 gives.Vec4F (sizes.Scalar ∷ []) (u32 ∷ [])
rules_of f.Unpack2x16snorm = regular_rules 1 gives.Vec2F (sizes.Scalar ∷ []) (u32 ∷ [])
rules_of f.Unpack2x16unorm = regular_rules 1 gives.Vec2F (sizes.Scalar ∷ []) (u32 ∷ [])
rules_of f.Unpack2x16float = regular_rules 1 gives.Vec2F (sizes.Scalar ∷ []) (u32 ∷ [])
rules_of f.Unpack4xI8 = regular_rules 1 gives.Vec4I (sizes.Scalar ∷ []) (u32 ∷ [])
rules_of f.Unpack4xU8 = regular_rules 1 gives.Vec4U (sizes.Scalar ∷ []) (u32 ∷ [])
rules_of f.Dot4I8Packed = regular_rules 2 gives.I32 (sizes.Scalar ∷ []) (u32 ∷ [])
rules_of f.Dot4U8Packed = regular_rules 2 gives.U32 (sizes.Scalar ∷ []) (u32 ∷ [])
rules_of f.Dot = regular_rules 2 gives.Scalar vectors numeric
rules_of f.Cross = regular_rules 2 gives.ArgumentType (sizes.Vector Tri ∷ []) all_floats
rules_of f.Length = regular_rules 1 gives.Scalar scalars_and_vectors all_floats
rules_of f.Normalize = regular_rules 1 gives.ArgumentType vectors all_floats
rules_of f.Inverse = regular_rules 1 gives.ArgumentType square_matrices all_floats
rules_of f.Determinant = regular_rules 1 gives.Scalar square_matrices all_floats
rules_of f.QuantizeToF16 = regular_rules 1 gives.ArgumentType scalars_and_vectors (f32 ∷ [])
rules_of f.Modf = regular_rules 1 gives.Modf scalars_and_vectors all_floats
rules_of f.Frexp = regular_rules 1 gives.Frexp scalars_and_vectors all_floats
rules_of f.Distance = regular_rules 2 gives.Scalar scalars_and_vectors all_floats
rules_of f.FaceForward = regular_rules 3 gives.ArgumentType vectors all_floats
rules_of f.Reflect = regular_rules 2 gives.ArgumentType vectors all_floats
rules_of f.Ldexp = ldexp_rules
rules_of f.Outer = outer_rules
rules_of f.Refract = refract_rules
rules_of f.Transpose = transpose_rules
rules_of f.ExtractBits = extract_bits_rules
rules_of f.InsertBits = insert_bits_rules
rules_of f.Mix = mix_rules

-- how the set of a built-in function accepts arguments
abbrev pub acceptance_of : MathFunction → List «Type» → ℕ → TypeInner → Rule → Bool
acceptance_of f.Ldexp = list_accepts
acceptance_of f.Outer = list_accepts
acceptance_of f.Refract = list_accepts
acceptance_of f.Transpose = list_accepts
acceptance_of f.ExtractBits = list_accepts
acceptance_of f.InsertBits = list_accepts
acceptance_of f.Mix = list_accepts
acceptance_of _ = accepts

-- the rule that a call means: the first that accepts arguments of these types, if there is one
abbrev pub rule_meant : List «Type» → MathFunction → List TypeInner → Option Rule
rule_meant types function arguments =
    slice_get (remaining (acceptance_of function) types (supplying 0 arguments) (rules_of function)) 0
