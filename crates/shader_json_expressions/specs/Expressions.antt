-- Expressions in the JSON of modules.
use Rattle.std.specs.Prelude.{ℕ, List, Option, codes}
use Rattle.json.specs.Json.{Json}
use Rattle.shader_ir.specs.declared.expression.Expression.{Expression}
use Rattle.shader_ir.specs.declared.expression.Expression.TheVariants as e
use Rattle.shader_json_reader.specs.Numbers.{IsHandle, IsTruth, IsU32, IsU8}
use Rattle.shader_json_reader.specs.Shapes.{IsVariant, IsUnit, IsNewtype, IsStruct, IsList, HasField, MayHaveField}
use Rattle.shader_json_declarations.specs.Scalars.{IsCooperativeSize, IsKind, IsRole, IsSize}
use Rattle.shader_json_expressions.specs.Literals.{IsLiteral}
use Rattle.shader_json_expressions.specs.Operators.{IsAxis, IsBinaryOperator, IsComponent, IsControl, IsBuiltinFunction, IsLevel, IsQuery}
use Rattle.shader_json_expressions.specs.Operators.{IsPattern, IsRelational, IsTile, IsUnaryOperator}

abbrev pub IsExpressionOf : List ℕ → Option Json → Expression → Type 0
IsExpressionOf name payload (e.Literal literal) = IsNewtype (codes "Literal") name payload (λ j. IsLiteral j literal)
IsExpressionOf name payload (e.Constant handle) = IsNewtype (codes "Constant") name payload (λ j. IsHandle j handle)
IsExpressionOf name payload (e.Override handle) = IsNewtype (codes "Override") name payload (λ j. IsHandle j handle)
IsExpressionOf name payload (e.ZeroValue ty) = IsNewtype (codes "ZeroValue") name payload (λ j. IsHandle j ty)
IsExpressionOf name payload (e.Compose ty components) = IsStruct (codes "Compose") name payload
    (λ ms. HasField IsHandle (codes "ty") ms ty × HasField (IsList IsHandle) (codes "components") ms components)
IsExpressionOf name payload (e.Access base index) = IsStruct (codes "Access") name payload
    (λ ms. HasField IsHandle (codes "base") ms base × HasField IsHandle (codes "index") ms index)
IsExpressionOf name payload (e.AccessIndex base index) = IsStruct (codes "AccessIndex") name payload
    (λ ms. HasField IsHandle (codes "base") ms base × HasField IsU32 (codes "index") ms index)
IsExpressionOf name payload (e.Splat size value) = IsStruct (codes "Splat") name payload
    (λ ms. HasField IsSize (codes "size") ms size × HasField IsHandle (codes "value") ms value)
IsExpressionOf name payload (e.Swizzle size vector pattern) = IsStruct (codes "Swizzle") name payload
    (λ ms. HasField IsSize (codes "size") ms size × HasField IsHandle (codes "vector") ms vector
    × HasField IsPattern (codes "pattern") ms pattern)
IsExpressionOf name payload (e.FunctionArgument number) = IsNewtype (codes "FunctionArgument") name payload (λ j. IsU32 j number)
IsExpressionOf name payload (e.GlobalVariable handle) = IsNewtype (codes "GlobalVariable") name payload (λ j. IsHandle j handle)
IsExpressionOf name payload (e.LocalVariable handle) = IsNewtype (codes "LocalVariable") name payload (λ j. IsHandle j handle)
IsExpressionOf name payload (e.Load pointer) = IsStruct (codes "Load") name payload
    (λ ms. HasField IsHandle (codes "pointer") ms pointer)
IsExpressionOf name payload (e.ImageSample image sampler gather clamp_to_edge coordinate array_index offset level depth_ref) =
    IsStruct (codes "ImageSample") name payload
    (λ ms. HasField IsHandle (codes "image") ms image × HasField IsHandle (codes "sampler") ms sampler
    × MayHaveField IsComponent (codes "gather") ms gather × HasField IsTruth (codes "clamp_to_edge") ms clamp_to_edge
    × HasField IsHandle (codes "coordinate") ms coordinate × MayHaveField IsHandle (codes "array_index") ms array_index
    × MayHaveField IsHandle (codes "offset") ms offset × HasField IsLevel (codes "level") ms level
    × MayHaveField IsHandle (codes "depth_ref") ms depth_ref)
IsExpressionOf name payload (e.ImageLoad image coordinate array_index sample level) = IsStruct (codes "ImageLoad") name payload
    (λ ms. HasField IsHandle (codes "image") ms image × HasField IsHandle (codes "coordinate") ms coordinate
    × MayHaveField IsHandle (codes "array_index") ms array_index × MayHaveField IsHandle (codes "sample") ms sample
    × MayHaveField IsHandle (codes "level") ms level)
IsExpressionOf name payload (e.ImageQuery image query) = IsStruct (codes "ImageQuery") name payload
    (λ ms. HasField IsHandle (codes "image") ms image × HasField IsQuery (codes "query") ms query)
IsExpressionOf name payload (e.Unary op expr) = IsStruct (codes "Unary") name payload
    (λ ms. HasField IsUnaryOperator (codes "op") ms op × HasField IsHandle (codes "expr") ms expr)
IsExpressionOf name payload (e.Binary op left right) = IsStruct (codes "Binary") name payload
    (λ ms. HasField IsBinaryOperator (codes "op") ms op × HasField IsHandle (codes "left") ms left
    × HasField IsHandle (codes "right") ms right)
IsExpressionOf name payload (e.Select condition accept reject) = IsStruct (codes "Select") name payload
    (λ ms. HasField IsHandle (codes "condition") ms condition × HasField IsHandle (codes "accept") ms accept
    × HasField IsHandle (codes "reject") ms reject)
IsExpressionOf name payload (e.Derivative axis ctrl expr) = IsStruct (codes "Derivative") name payload
    (λ ms. HasField IsAxis (codes "axis") ms axis × HasField IsControl (codes "ctrl") ms ctrl
    × HasField IsHandle (codes "expr") ms expr)
IsExpressionOf name payload (e.Relational fun argument) = IsStruct (codes "Relational") name payload
    (λ ms. HasField IsRelational (codes "fun") ms fun × HasField IsHandle (codes "argument") ms argument)
IsExpressionOf name payload (e.Math fun arg arg1 arg2 arg3) = IsStruct (codes "Math") name payload
    (λ ms. HasField IsBuiltinFunction (codes "fun") ms fun × HasField IsHandle (codes "arg") ms arg
    × MayHaveField IsHandle (codes "arg1") ms arg1 × MayHaveField IsHandle (codes "arg2") ms arg2
    × MayHaveField IsHandle (codes "arg3") ms arg3)
IsExpressionOf name payload (e.As expr kind convert) = IsStruct (codes "As") name payload
    (λ ms. HasField IsHandle (codes "expr") ms expr × HasField IsKind (codes "kind") ms kind
    × MayHaveField IsU8 (codes "convert") ms convert)
IsExpressionOf name payload (e.CallResult handle) = IsNewtype (codes "CallResult") name payload (λ j. IsHandle j handle)
IsExpressionOf name payload (e.AtomicResult ty comparison) = IsStruct (codes "AtomicResult") name payload
    (λ ms. HasField IsHandle (codes "ty") ms ty × HasField IsTruth (codes "comparison") ms comparison)
IsExpressionOf name payload (e.WorkGroupUniformLoadResult ty) = IsStruct (codes "WorkGroupUniformLoadResult") name payload
    (λ ms. HasField IsHandle (codes "ty") ms ty)
IsExpressionOf name payload (e.ArrayLength handle) = IsNewtype (codes "ArrayLength") name payload (λ j. IsHandle j handle)
IsExpressionOf name payload (e.RayQueryVertexPositions query committed) = IsStruct (codes "RayQueryVertexPositions") name payload
    (λ ms. HasField IsHandle (codes "query") ms query × HasField IsTruth (codes "committed") ms committed)
IsExpressionOf name payload e.RayQueryProceedResult = IsUnit (codes "RayQueryProceedResult") name payload
IsExpressionOf name payload (e.RayQueryGetIntersection query committed) = IsStruct (codes "RayQueryGetIntersection") name payload
    (λ ms. HasField IsHandle (codes "query") ms query × HasField IsTruth (codes "committed") ms committed)
IsExpressionOf name payload e.SubgroupBallotResult = IsUnit (codes "SubgroupBallotResult") name payload
IsExpressionOf name payload (e.SubgroupOperationResult ty) = IsStruct (codes "SubgroupOperationResult") name payload
    (λ ms. HasField IsHandle (codes "ty") ms ty)
IsExpressionOf name payload (e.CooperativeLoad columns rows role tile) = IsStruct (codes "CooperativeLoad") name payload
    (λ ms. HasField IsCooperativeSize (codes "columns") ms columns × HasField IsCooperativeSize (codes "rows") ms rows
    × HasField IsRole (codes "role") ms role × HasField IsTile (codes "data") ms tile)
IsExpressionOf name payload (e.CooperativeMultiplyAdd a b c) = IsStruct (codes "CooperativeMultiplyAdd") name payload
    (λ ms. HasField IsHandle (codes "a") ms a × HasField IsHandle (codes "b") ms b × HasField IsHandle (codes "c") ms c)

abbrev pub IsExpression : Json → Expression → Type 0
IsExpression j expression = IsVariant j (λ name payload. IsExpressionOf name payload expression)
