-- Operators, built-in functions and modes of expressions are determined by their JSON.
use Rattle.std.proofs.Common.{◌≡◌, ◌∙◌, ap, sym, refl, ℕ, List, [], ◌∷◌, Option, Some}
use Rattle.std.proofs.Common.{codes}
use Rattle.json.specs.Json.{Json}
use Rattle.shader_json_reader.specs.Numbers.{IsHandle, IsTruth}
use Rattle.shader_json_reader.specs.Shapes.{Determines}
use Rattle.shader_json_reader.proofs.NumberLemmas.{handle_same, truth_same}
use Rattle.shader_json_reader.proofs.ShapeLemmas.{apart, field, list, optional, newtype}
use Rattle.shader_json_reader.proofs.ShapeLemmas.{same_object, same_struct, same_variant, named, name_determines}
use Rattle.shader_ir.specs.declared.operators.BinaryOperator.{BinaryOperator}
use Rattle.shader_ir.specs.declared.operators.BinaryOperator.TheVariants as binary
use Rattle.shader_ir.specs.declared.operators.DerivativeAxis.{DerivativeAxis}
use Rattle.shader_ir.specs.declared.operators.DerivativeAxis.TheVariants as axes
use Rattle.shader_ir.specs.declared.operators.DerivativeControl.{DerivativeControl}
use Rattle.shader_ir.specs.declared.operators.DerivativeControl.TheVariants as controls
use Rattle.shader_ir.specs.declared.operators.MathFunction.{MathFunction}
use Rattle.shader_ir.specs.declared.operators.MathFunction.TheVariants as f
use Rattle.shader_ir.specs.declared.operators.RelationalFunction.{RelationalFunction}
use Rattle.shader_ir.specs.declared.operators.RelationalFunction.TheVariants as relational
use Rattle.shader_ir.specs.declared.operators.SwizzleComponent.{SwizzleComponent}
use Rattle.shader_ir.specs.declared.operators.SwizzleComponent.TheVariants as components
use Rattle.shader_ir.specs.declared.operators.UnaryOperator.{UnaryOperator}
use Rattle.shader_ir.specs.declared.operators.UnaryOperator.TheVariants as unary
use Rattle.shader_ir.specs.declared.expression.ImageQuery.{ImageQuery}
use Rattle.shader_ir.specs.declared.expression.ImageQuery.TheVariants as queries
use Rattle.shader_ir.specs.declared.expression.SampleLevel.{SampleLevel}
use Rattle.shader_ir.specs.declared.expression.SampleLevel.TheVariants as levels
use Rattle.shader_json_expressions.specs.Names.{unary_name, binary_name, axis_name, control_name, relational_name, component_name}
use Rattle.shader_json_expressions.specs.Names.{function_name}
use Rattle.shader_json_expressions.specs.Operators.{IsUnaryOperator, IsBinaryOperator, IsAxis, IsControl, IsRelational, IsComponent}
use Rattle.shader_json_expressions.specs.Operators.{IsBuiltinFunction, IsLevelOf, IsLevel, IsPattern, IsQueryOf, IsQuery, IsTile}

abbrev unary_operator_all : List UnaryOperator
unary_operator_all = unary.Negate ∷ unary.LogicalNot ∷ unary.BitwiseNot ∷ []

unary_operator_found : (x : UnaryOperator) → named unary_name unary_operator_all (unary_name x) ≡ Some x
unary_operator_found unary.Negate = refl
unary_operator_found x = refl

pub unary_operator_same : Determines IsUnaryOperator
unary_operator_same = name_determines unary_name unary_operator_all unary_operator_found

abbrev binary_operator_all : List BinaryOperator
binary_operator_all = binary.Add ∷ binary.Subtract ∷ binary.Multiply ∷ binary.Divide ∷ binary.Modulo ∷ binary.Equal ∷ binary.NotEqual
    ∷ binary.Less ∷ binary.LessEqual ∷ binary.Greater ∷ binary.GreaterEqual ∷ binary.And ∷ binary.ExclusiveOr ∷ binary.InclusiveOr
    ∷ binary.LogicalAnd ∷ binary.LogicalOr ∷ binary.ShiftLeft ∷ binary.ShiftRight ∷ []

binary_operator_found : (x : BinaryOperator) → named binary_name binary_operator_all (binary_name x) ≡ Some x
binary_operator_found binary.Add = refl
binary_operator_found x = refl

pub binary_operator_same : Determines IsBinaryOperator
binary_operator_same = name_determines binary_name binary_operator_all binary_operator_found

abbrev axis_all : List DerivativeAxis
axis_all = axes.X ∷ axes.Y ∷ axes.Width ∷ []

axis_found : (x : DerivativeAxis) → named axis_name axis_all (axis_name x) ≡ Some x
axis_found axes.X = refl
axis_found x = refl

pub axis_same : Determines IsAxis
axis_same = name_determines axis_name axis_all axis_found

abbrev control_all : List DerivativeControl
control_all = controls.Coarse ∷ controls.Fine ∷ controls.None ∷ []

control_found : (x : DerivativeControl) → named control_name control_all (control_name x) ≡ Some x
control_found controls.Coarse = refl
control_found x = refl

pub control_same : Determines IsControl
control_same = name_determines control_name control_all control_found

abbrev relational_all : List RelationalFunction
relational_all = relational.All ∷ relational.Any ∷ relational.IsNan ∷ relational.IsInf ∷ []

relational_found : (x : RelationalFunction) → named relational_name relational_all (relational_name x) ≡ Some x
relational_found relational.All = refl
relational_found x = refl

pub relational_same : Determines IsRelational
relational_same = name_determines relational_name relational_all relational_found

abbrev component_all : List SwizzleComponent
component_all = components.X ∷ components.Y ∷ components.Z ∷ components.W ∷ []

component_found : (x : SwizzleComponent) → named component_name component_all (component_name x) ≡ Some x
component_found components.X = refl
component_found x = refl

pub component_same : Determines IsComponent
component_same = name_determines component_name component_all component_found

pub pattern_same : Determines IsPattern
pattern_same j x y u v = list IsComponent component_same j x y u.0 v.0

abbrev builtin_function_all : List MathFunction
builtin_function_all = f.Abs ∷ f.Min ∷ f.Max ∷ f.Clamp ∷ f.Saturate ∷ f.Cos ∷ f.Cosh ∷ f.Sin ∷ f.Sinh ∷ f.Tan ∷ f.Tanh ∷ f.Acos ∷ f.Asin
    ∷ f.Atan ∷ f.Atan2 ∷ f.Asinh ∷ f.Acosh ∷ f.Atanh ∷ f.Radians ∷ f.Degrees ∷ f.Ceil ∷ f.Floor ∷ f.Round ∷ f.Fract ∷ f.Trunc ∷ f.Modf
    ∷ f.Frexp ∷ f.Ldexp ∷ f.Exp ∷ f.Exp2 ∷ f.Log ∷ f.Log2 ∷ f.Pow ∷ f.Dot ∷ f.Dot4I8Packed ∷ f.Dot4U8Packed ∷ f.Outer ∷ f.Cross
    ∷ f.Distance ∷ f.Length ∷ f.Normalize ∷ f.FaceForward ∷ f.Reflect ∷ f.Refract ∷ f.Sign ∷ f.Fma ∷ f.Mix ∷ f.Step ∷ f.SmoothStep
    ∷ f.Sqrt ∷ f.InverseSqrt ∷ f.Inverse ∷ f.Transpose ∷ f.Determinant ∷ f.QuantizeToF16 ∷ f.CountTrailingZeros ∷ f.CountLeadingZeros
    ∷ f.CountOneBits ∷ f.ReverseBits ∷ f.ExtractBits ∷ f.InsertBits ∷ f.FirstTrailingBit ∷ f.FirstLeadingBit ∷ f.Pack4x8snorm
    ∷ f.Pack4x8unorm ∷ f.Pack2x16snorm ∷ f.Pack2x16unorm ∷ f.Pack2x16float ∷ f.Pack4xI8 ∷ f.Pack4xU8 ∷ f.Pack4xI8Clamp ∷ f.Pack4xU8Clamp
    ∷ f.Unpack4x8snorm ∷ f.Unpack4x8unorm ∷ f.Unpack2x16snorm ∷ f.Unpack2x16unorm ∷ f.Unpack2x16float ∷ f.Unpack4xI8 ∷ f.Unpack4xU8 ∷ []

builtin_function_found : (x : MathFunction) → named function_name builtin_function_all (function_name x) ≡ Some x
builtin_function_found f.Abs = refl
builtin_function_found x = refl

pub builtin_function_same : Determines IsBuiltinFunction
builtin_function_same = name_determines function_name builtin_function_all builtin_function_found

abbrev pub label_level : SampleLevel → List ℕ
label_level levels.Auto = codes "Auto"
label_level levels.Zero = codes "Zero"
label_level (levels.Exact level) = codes "Exact"
label_level (levels.Bias bias) = codes "Bias"
label_level (levels.Gradient x y) = codes "Gradient"

pub labelled_level : (name : List ℕ) (payload : Option Json) (x : SampleLevel) → IsLevelOf name payload x → name ≡ label_level x
labelled_level name payload levels.Auto u = u.0
labelled_level name payload x u = u.0

level_of : (name : List ℕ) (payload : Option Json) (x y : SampleLevel) → IsLevelOf name payload x → IsLevelOf name payload y → x ≡ y
level_of name payload levels.Auto levels.Auto u v = refl
level_of name payload levels.Zero levels.Zero u v = refl
level_of name payload (levels.Exact level) (levels.Exact level′) u v = ap levels.Exact
    (newtype IsHandle handle_same payload level level′ u.1 v.1)
level_of name payload (levels.Bias bias) (levels.Bias bias′) u v = ap levels.Bias
    (newtype IsHandle handle_same payload bias bias′ u.1 v.1)
level_of name payload (levels.Gradient x y) (levels.Gradient x′ y′) u v = same_struct _ _ _ _
    (λ ms p q i. levels.Gradient (field IsHandle handle_same (codes "x") ms x x′ p.0 q.0 i)
    (field IsHandle handle_same (codes "y") ms y y′ p.1 q.1 i)) payload u.1 v.1
level_of name payload x y u v = apart (label_level x) (label_level y) refl
    (sym (labelled_level name payload x u) ∙ labelled_level name payload y v)

pub level_same : Determines IsLevel
level_same j x y u v = same_variant _ _ _ _ (λ name payload p q. level_of name payload x y p q) j u v

abbrev pub label_query : ImageQuery → List ℕ
label_query (queries.Size level) = codes "Size"
label_query queries.NumLevels = codes "NumLevels"
label_query queries.NumLayers = codes "NumLayers"
label_query queries.NumSamples = codes "NumSamples"

pub labelled_query : (name : List ℕ) (payload : Option Json) (x : ImageQuery) → IsQueryOf name payload x → name ≡ label_query x
labelled_query name payload (queries.Size level) u = u.0
labelled_query name payload x u = u.0

query_of : (name : List ℕ) (payload : Option Json) (x y : ImageQuery) → IsQueryOf name payload x → IsQueryOf name payload y → x ≡ y
query_of name payload (queries.Size level) (queries.Size level′) u v = same_struct _ _ _ _
    (λ ms p q i. queries.Size (optional IsHandle handle_same (codes "level") ms level level′ p q i)) payload u.1 v.1
query_of name payload queries.NumLevels queries.NumLevels u v = refl
query_of name payload queries.NumLayers queries.NumLayers u v = refl
query_of name payload queries.NumSamples queries.NumSamples u v = refl
query_of name payload x y u v = apart (label_query x) (label_query y) refl
    (sym (labelled_query name payload x u) ∙ labelled_query name payload y v)

pub query_same : Determines IsQuery
query_same j x y u v = same_variant _ _ _ _ (λ name payload p q. query_of name payload x y p q) j u v

pub tile_same : Determines IsTile
tile_same j x y u v = same_object _ _ _ _ (λ ms p q i. record {
  pointer = field IsHandle handle_same
      (codes "pointer") ms x.pointer y.pointer p.0 q.0 i;
  stride = field IsHandle handle_same
      (codes "stride") ms x.stride y.stride p.1 q.1 i;
  row_major = field IsTruth truth_same
      (codes "row_major") ms x.row_major y.row_major p.2 q.2 i;
}) j u v
