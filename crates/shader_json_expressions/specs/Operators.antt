-- Operators, built-in functions and modes of expressions in the JSON of modules.
use Rattle.std.specs.Prelude.{◌≡◌, ℕ, List, length, Option, codes}
use Rattle.json.specs.Json.{Json, string}
use Rattle.shader_ir.specs.declared.expression.CooperativeData.{CooperativeData}
use Rattle.shader_ir.specs.declared.expression.ImageQuery.{ImageQuery}
use Rattle.shader_ir.specs.declared.expression.ImageQuery.TheVariants as queries
use Rattle.shader_ir.specs.declared.expression.SampleLevel.{SampleLevel}
use Rattle.shader_ir.specs.declared.expression.SampleLevel.TheVariants as levels
use Rattle.shader_ir.specs.declared.operators.BinaryOperator.{BinaryOperator}
use Rattle.shader_ir.specs.declared.operators.DerivativeAxis.{DerivativeAxis}
use Rattle.shader_ir.specs.declared.operators.DerivativeControl.{DerivativeControl}
use Rattle.shader_ir.specs.declared.operators.MathFunction.{MathFunction}
use Rattle.shader_ir.specs.declared.operators.RelationalFunction.{RelationalFunction}
use Rattle.shader_ir.specs.declared.operators.SwizzleComponent.{SwizzleComponent}
use Rattle.shader_ir.specs.declared.operators.UnaryOperator.{UnaryOperator}
use Rattle.shader_json_reader.specs.Numbers.{IsHandle, IsTruth}
use Rattle.shader_json_reader.specs.Shapes.{IsObject, IsVariant, IsUnit, IsNewtype, IsStruct, IsList, HasField, MayHaveField}
use Rattle.shader_json_expressions.specs.Names.{unary_name, binary_name, axis_name, control_name, relational_name, component_name}
use Rattle.shader_json_expressions.specs.Names.{function_name}

abbrev pub IsUnaryOperator : Json → UnaryOperator → Type 0
IsUnaryOperator j op = j ≡ string (unary_name op)

abbrev pub IsBinaryOperator : Json → BinaryOperator → Type 0
IsBinaryOperator j op = j ≡ string (binary_name op)

abbrev pub IsAxis : Json → DerivativeAxis → Type 0
IsAxis j axis = j ≡ string (axis_name axis)

abbrev pub IsControl : Json → DerivativeControl → Type 0
IsControl j control = j ≡ string (control_name control)

abbrev pub IsRelational : Json → RelationalFunction → Type 0
IsRelational j fun = j ≡ string (relational_name fun)

abbrev pub IsComponent : Json → SwizzleComponent → Type 0
IsComponent j component = j ≡ string (component_name component)

-- the four components that a swizzle takes of a vector
abbrev pub IsPattern : Json → List SwizzleComponent → Type 0
IsPattern j pattern = IsList IsComponent j pattern × (length pattern ≡ 4)

abbrev pub IsBuiltinFunction : Json → MathFunction → Type 0
IsBuiltinFunction j fun = j ≡ string (function_name fun)

abbrev pub IsLevelOf : List ℕ → Option Json → SampleLevel → Type 0
IsLevelOf name payload levels.Auto = IsUnit (codes "Auto") name payload
IsLevelOf name payload levels.Zero = IsUnit (codes "Zero") name payload
IsLevelOf name payload (levels.Exact level) = IsNewtype (codes "Exact") name payload (λ j. IsHandle j level)
IsLevelOf name payload (levels.Bias bias) = IsNewtype (codes "Bias") name payload (λ j. IsHandle j bias)
IsLevelOf name payload (levels.Gradient x y) = IsStruct (codes "Gradient") name payload
    (λ ms. HasField IsHandle (codes "x") ms x × HasField IsHandle (codes "y") ms y)

abbrev pub IsLevel : Json → SampleLevel → Type 0
IsLevel j level = IsVariant j (λ name payload. IsLevelOf name payload level)

abbrev pub IsQueryOf : List ℕ → Option Json → ImageQuery → Type 0
IsQueryOf name payload (queries.Size level) = IsStruct (codes "Size") name payload (λ ms. MayHaveField IsHandle (codes "level") ms level)
IsQueryOf name payload queries.NumLevels = IsUnit (codes "NumLevels") name payload
IsQueryOf name payload queries.NumLayers = IsUnit (codes "NumLayers") name payload
IsQueryOf name payload queries.NumSamples = IsUnit (codes "NumSamples") name payload

abbrev pub IsQuery : Json → ImageQuery → Type 0
IsQuery j query = IsVariant j (λ name payload. IsQueryOf name payload query)

-- the location of a cooperative matrix in memory
abbrev pub IsTile : Json → CooperativeData → Type 0
IsTile j tile =
    IsObject j (λ ms. HasField IsHandle (codes "pointer") ms tile.pointer × HasField IsHandle (codes "stride") ms tile.stride
    × HasField IsTruth (codes "row_major") ms tile.row_major)
