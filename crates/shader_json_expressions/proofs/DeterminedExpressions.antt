-- Expressions are determined by their JSON.
use Rattle.std.proofs.Common.{◌≡◌, ◌∙◌, ap, sym, refl, ℕ, List, Option}
use Rattle.std.proofs.Common.{codes}
use Rattle.json.specs.Json.{Json}
use Rattle.shader_json_reader.specs.Numbers.{IsDouble, IsHandle, IsI16, IsI32, IsI64, IsSingle, IsTruth, IsU16, IsU32, IsU64, IsU8}
use Rattle.shader_json_reader.specs.Shapes.{IsList}
use Rattle.shader_json_reader.specs.Shapes.{Determines}
use Rattle.shader_json_reader.proofs.NumberLemmas.{double_same, handle_same, i16_same, i32_same, i64_same}
use Rattle.shader_json_reader.proofs.NumberLemmas.{single_same, truth_same, u16_same, u32_same, u64_same, u8_same}
use Rattle.shader_json_reader.proofs.ShapeLemmas.{apart, field, optional, list, newtype}
use Rattle.shader_json_reader.proofs.ShapeLemmas.{same_struct, same_variant}
use Rattle.shader_ir.specs.declared.literal.Literal.{Literal}
use Rattle.shader_ir.specs.declared.literal.Literal.TheVariants as l
use Rattle.shader_ir.specs.declared.expression.Expression.{Expression}
use Rattle.shader_ir.specs.declared.expression.Expression.TheVariants as e
use Rattle.shader_json_declarations.specs.Scalars.{IsCooperativeSize, IsKind, IsRole, IsSize}
use Rattle.shader_json_expressions.specs.Literals.{IsLiteralOf, IsLiteral}
use Rattle.shader_json_expressions.specs.Expressions.{IsExpressionOf, IsExpression}
use Rattle.shader_json_expressions.specs.Operators.{IsUnaryOperator, IsBinaryOperator, IsAxis, IsControl, IsRelational, IsComponent}
use Rattle.shader_json_expressions.specs.Operators.{IsBuiltinFunction, IsLevel, IsPattern, IsQuery, IsTile}
use Rattle.shader_json_declarations.proofs.DeterminedScalars.{cooperative_size_same, kind_same, role_same, size_same}
use Rattle.shader_json_expressions.proofs.DeterminedOperators.{unary_operator_same, binary_operator_same, axis_same, control_same}
use Rattle.shader_json_expressions.proofs.DeterminedOperators.{relational_same, component_same, builtin_function_same, level_same}
use Rattle.shader_json_expressions.proofs.DeterminedOperators.{pattern_same, query_same, tile_same}

abbrev pub label_literal : Literal → List ℕ
label_literal (l.F64 bits) = codes "F64"
label_literal (l.F32 bits) = codes "F32"
label_literal (l.F16 bits) = codes "F16"
label_literal (l.AbstractFloat bits) = codes "AbstractFloat"
label_literal (l.U16 n) = codes "U16"
label_literal (l.I16 n) = codes "I16"
label_literal (l.U32 n) = codes "U32"
label_literal (l.I32 n) = codes "I32"
label_literal (l.U64 n) = codes "U64"
label_literal (l.I64 n) = codes "I64"
label_literal (l.AbstractInt n) = codes "AbstractInt"
label_literal (l.Bool truth) = codes "Bool"

pub labelled_literal : (name : List ℕ) (payload : Option Json) (x : Literal) → IsLiteralOf name payload x → name ≡ label_literal x
labelled_literal name payload (l.F64 bits) u = u.0
labelled_literal name payload x u = u.0

literal_of : (name : List ℕ) (payload : Option Json) (x y : Literal) → IsLiteralOf name payload x → IsLiteralOf name payload y
    → x ≡ y
literal_of name payload (l.F64 bits) (l.F64 bits′) u v = ap l.F64 (newtype IsDouble double_same payload bits bits′ u.1 v.1)
literal_of name payload (l.F32 bits) (l.F32 bits′) u v = ap l.F32 (newtype IsSingle single_same payload bits bits′ u.1 v.1)
literal_of name payload (l.F16 bits) (l.F16 bits′) u v = ap l.F16 (newtype IsU16 u16_same payload bits bits′ u.1 v.1)
literal_of name payload (l.AbstractFloat bits) (l.AbstractFloat bits′) u v = ap l.AbstractFloat
    (newtype IsDouble double_same payload bits bits′ u.1 v.1)
literal_of name payload (l.U16 n) (l.U16 n′) u v = ap l.U16 (newtype IsU16 u16_same payload n n′ u.1 v.1)
literal_of name payload (l.I16 n) (l.I16 n′) u v = ap l.I16 (newtype IsI16 i16_same payload n n′ u.1 v.1)
literal_of name payload (l.U32 n) (l.U32 n′) u v = ap l.U32 (newtype IsU32 u32_same payload n n′ u.1 v.1)
literal_of name payload (l.I32 n) (l.I32 n′) u v = ap l.I32 (newtype IsI32 i32_same payload n n′ u.1 v.1)
literal_of name payload (l.U64 n) (l.U64 n′) u v = ap l.U64 (newtype IsU64 u64_same payload n n′ u.1 v.1)
literal_of name payload (l.I64 n) (l.I64 n′) u v = ap l.I64 (newtype IsI64 i64_same payload n n′ u.1 v.1)
literal_of name payload (l.AbstractInt n) (l.AbstractInt n′) u v = ap l.AbstractInt (newtype IsI64 i64_same payload n n′ u.1 v.1)
literal_of name payload (l.Bool truth) (l.Bool truth′) u v = ap l.Bool (newtype IsTruth truth_same payload truth truth′ u.1 v.1)
literal_of name payload x y u v = apart (label_literal x) (label_literal y) refl
    (sym (labelled_literal name payload x u) ∙ labelled_literal name payload y v)

pub literal_same : Determines IsLiteral
literal_same j x y u v = same_variant _ _ _ _ (λ name payload p q. literal_of name payload x y p q) j u v

abbrev pub label_expression : Expression → List ℕ
label_expression (e.Literal literal) = codes "Literal"
label_expression (e.Constant handle) = codes "Constant"
label_expression (e.Override handle) = codes "Override"
label_expression (e.ZeroValue ty) = codes "ZeroValue"
label_expression (e.Compose ty components) = codes "Compose"
label_expression (e.Access base index) = codes "Access"
label_expression (e.AccessIndex base index) = codes "AccessIndex"
label_expression (e.Splat size value) = codes "Splat"
label_expression (e.Swizzle size vector pattern) = codes "Swizzle"
label_expression (e.FunctionArgument number) = codes "FunctionArgument"
label_expression (e.GlobalVariable handle) = codes "GlobalVariable"
label_expression (e.LocalVariable handle) = codes "LocalVariable"
label_expression (e.Load pointer) = codes "Load"
label_expression (e.ImageSample image sampler gather clamp_to_edge coordinate array_index offset level depth_ref) = codes "ImageSample"
label_expression (e.ImageLoad image coordinate array_index sample level) = codes "ImageLoad"
label_expression (e.ImageQuery image query) = codes "ImageQuery"
label_expression (e.Unary op expr) = codes "Unary"
label_expression (e.Binary op left right) = codes "Binary"
label_expression (e.Select condition accept reject) = codes "Select"
label_expression (e.Derivative axis ctrl expr) = codes "Derivative"
label_expression (e.Relational fun argument) = codes "Relational"
label_expression (e.Math fun arg arg1 arg2 arg3) = codes "Math"
label_expression (e.As expr kind convert) = codes "As"
label_expression (e.CallResult handle) = codes "CallResult"
label_expression (e.AtomicResult ty comparison) = codes "AtomicResult"
label_expression (e.WorkGroupUniformLoadResult ty) = codes "WorkGroupUniformLoadResult"
label_expression (e.ArrayLength handle) = codes "ArrayLength"
label_expression (e.RayQueryVertexPositions query committed) = codes "RayQueryVertexPositions"
label_expression e.RayQueryProceedResult = codes "RayQueryProceedResult"
label_expression (e.RayQueryGetIntersection query committed) = codes "RayQueryGetIntersection"
label_expression e.SubgroupBallotResult = codes "SubgroupBallotResult"
label_expression (e.SubgroupOperationResult ty) = codes "SubgroupOperationResult"
label_expression (e.CooperativeLoad columns rows role tile) = codes "CooperativeLoad"
label_expression (e.CooperativeMultiplyAdd a b c) = codes "CooperativeMultiplyAdd"

pub labelled_expression : (name : List ℕ) (payload : Option Json) (x : Expression) → IsExpressionOf name payload x
    → name ≡ label_expression x
labelled_expression name payload (e.Literal literal) u = u.0
labelled_expression name payload x u = u.0

expression_of : (name : List ℕ) (payload : Option Json) (x y : Expression) → IsExpressionOf name payload x → IsExpressionOf name payload y
    → x ≡ y
expression_of name payload (e.Literal literal) (e.Literal literal′) u v = ap e.Literal
    (newtype IsLiteral literal_same payload literal literal′ u.1 v.1)
expression_of name payload (e.Constant handle) (e.Constant handle′) u v = ap e.Constant
    (newtype IsHandle handle_same payload handle handle′ u.1 v.1)
expression_of name payload (e.Override handle) (e.Override handle′) u v = ap e.Override
    (newtype IsHandle handle_same payload handle handle′ u.1 v.1)
expression_of name payload (e.ZeroValue ty) (e.ZeroValue ty′) u v = ap e.ZeroValue
    (newtype IsHandle handle_same payload ty ty′ u.1 v.1)
expression_of name payload (e.Compose ty components) (e.Compose ty′ components′) u v = same_struct _ _ _ _
    (λ ms p q i. e.Compose (field IsHandle handle_same (codes "ty") ms ty ty′ p.0 q.0 i)
    (field (IsList IsHandle) (list IsHandle handle_same)
    (codes "components") ms components components′ p.1 q.1 i)) payload u.1 v.1
expression_of name payload (e.Access base index) (e.Access base′ index′) u v = same_struct _ _ _ _
    (λ ms p q i. e.Access (field IsHandle handle_same (codes "base") ms base base′ p.0 q.0 i)
    (field IsHandle handle_same (codes "index") ms index index′ p.1 q.1 i)) payload u.1 v.1
expression_of name payload (e.AccessIndex base index) (e.AccessIndex base′ index′) u v = same_struct _ _ _ _
    (λ ms p q i. e.AccessIndex (field IsHandle handle_same (codes "base") ms base base′ p.0 q.0 i)
    (field IsU32 u32_same (codes "index") ms index index′ p.1 q.1 i)) payload u.1 v.1
expression_of name payload (e.Splat size value) (e.Splat size′ value′) u v = same_struct _ _ _ _
    (λ ms p q i. e.Splat (field IsSize size_same (codes "size") ms size size′ p.0 q.0 i)
    (field IsHandle handle_same (codes "value") ms value value′ p.1 q.1 i)) payload u.1 v.1
expression_of name payload (e.Swizzle size vector pattern) (e.Swizzle size′ vector′ pattern′) u v = same_struct _ _ _ _
    (λ ms p q i. e.Swizzle (field IsSize size_same (codes "size") ms size size′ p.0 q.0 i)
    (field IsHandle handle_same (codes "vector") ms vector vector′ p.1 q.1 i)
    (field IsPattern pattern_same (codes "pattern") ms pattern pattern′ p.2 q.2 i)) payload u.1 v.1
expression_of name payload (e.FunctionArgument number) (e.FunctionArgument number′) u v = ap e.FunctionArgument
    (newtype IsU32 u32_same payload number number′ u.1 v.1)
expression_of name payload (e.GlobalVariable handle) (e.GlobalVariable handle′) u v = ap e.GlobalVariable
    (newtype IsHandle handle_same payload handle handle′ u.1 v.1)
expression_of name payload (e.LocalVariable handle) (e.LocalVariable handle′) u v = ap e.LocalVariable
    (newtype IsHandle handle_same payload handle handle′ u.1 v.1)
expression_of name payload (e.Load pointer) (e.Load pointer′) u v = same_struct _ _ _ _
    (λ ms p q i. e.Load (field IsHandle handle_same (codes "pointer") ms pointer pointer′ p q i)) payload u.1 v.1
expression_of name payload (e.ImageSample image sampler gather clamp_to_edge coordinate array_index offset level depth_ref)
    (e.ImageSample image′ sampler′ gather′ clamp_to_edge′ coordinate′ array_index′ offset′ level′ depth_ref′) u v = same_struct _ _ _ _
    (λ ms p q i. e.ImageSample (field IsHandle handle_same (codes "image") ms image image′ p.0 q.0 i)
    (field IsHandle handle_same (codes "sampler") ms sampler sampler′ p.1 q.1 i)
    (optional IsComponent component_same (codes "gather") ms gather gather′ p.2 q.2 i)
    (field IsTruth truth_same (codes "clamp_to_edge") ms clamp_to_edge clamp_to_edge′ p.3 q.3 i)
    (field IsHandle handle_same (codes "coordinate") ms coordinate coordinate′ p.4 q.4 i)
    (optional IsHandle handle_same (codes "array_index") ms array_index array_index′ p.5 q.5 i)
    (optional IsHandle handle_same (codes "offset") ms offset offset′ p.6 q.6 i)
    (field IsLevel level_same (codes "level") ms level level′ p.7 q.7 i)
    (optional IsHandle handle_same (codes "depth_ref") ms depth_ref depth_ref′ p.8 q.8 i)) payload u.1 v.1
expression_of name payload (e.ImageLoad image coordinate array_index sample level)
    (e.ImageLoad image′ coordinate′ array_index′ sample′ level′) u v = same_struct _ _ _ _
    (λ ms p q i. e.ImageLoad (field IsHandle handle_same (codes "image") ms image image′ p.0 q.0 i)
    (field IsHandle handle_same (codes "coordinate") ms coordinate coordinate′ p.1 q.1 i)
    (optional IsHandle handle_same (codes "array_index") ms array_index array_index′ p.2 q.2 i)
    (optional IsHandle handle_same (codes "sample") ms sample sample′ p.3 q.3 i)
    (optional IsHandle handle_same (codes "level") ms level level′ p.4 q.4 i)) payload u.1 v.1
expression_of name payload (e.ImageQuery image query) (e.ImageQuery image′ query′) u v = same_struct _ _ _ _
    (λ ms p q i. e.ImageQuery (field IsHandle handle_same (codes "image") ms image image′ p.0 q.0 i)
    (field IsQuery query_same (codes "query") ms query query′ p.1 q.1 i)) payload u.1 v.1
expression_of name payload (e.Unary op expr) (e.Unary op′ expr′) u v = same_struct _ _ _ _
    (λ ms p q i. e.Unary (field IsUnaryOperator unary_operator_same (codes "op") ms op op′ p.0 q.0 i)
    (field IsHandle handle_same (codes "expr") ms expr expr′ p.1 q.1 i)) payload u.1 v.1
expression_of name payload (e.Binary op left right) (e.Binary op′ left′ right′) u v = same_struct _ _ _ _
    (λ ms p q i. e.Binary (field IsBinaryOperator binary_operator_same (codes "op") ms op op′ p.0 q.0 i)
    (field IsHandle handle_same (codes "left") ms left left′ p.1 q.1 i)
    (field IsHandle handle_same (codes "right") ms right right′ p.2 q.2 i)) payload u.1 v.1
expression_of name payload (e.Select condition accept reject) (e.Select condition′ accept′ reject′) u v = same_struct _ _ _ _
    (λ ms p q i. e.Select (field IsHandle handle_same (codes "condition") ms condition condition′ p.0 q.0 i)
    (field IsHandle handle_same (codes "accept") ms accept accept′ p.1 q.1 i)
    (field IsHandle handle_same (codes "reject") ms reject reject′ p.2 q.2 i)) payload u.1 v.1
expression_of name payload (e.Derivative axis ctrl expr) (e.Derivative axis′ ctrl′ expr′) u v = same_struct _ _ _ _
    (λ ms p q i. e.Derivative (field IsAxis axis_same (codes "axis") ms axis axis′ p.0 q.0 i)
    (field IsControl control_same (codes "ctrl") ms ctrl ctrl′ p.1 q.1 i)
    (field IsHandle handle_same (codes "expr") ms expr expr′ p.2 q.2 i)) payload u.1 v.1
expression_of name payload (e.Relational fun argument) (e.Relational fun′ argument′) u v = same_struct _ _ _ _
    (λ ms p q i. e.Relational (field IsRelational relational_same (codes "fun") ms fun fun′ p.0 q.0 i)
    (field IsHandle handle_same (codes "argument") ms argument argument′ p.1 q.1 i)) payload u.1 v.1
expression_of name payload (e.Math fun arg arg1 arg2 arg3) (e.Math fun′ arg′ arg1′ arg2′ arg3′) u v = same_struct _ _ _ _
    (λ ms p q i. e.Math (field IsBuiltinFunction builtin_function_same (codes "fun") ms fun fun′ p.0 q.0 i)
    (field IsHandle handle_same (codes "arg") ms arg arg′ p.1 q.1 i)
    (optional IsHandle handle_same (codes "arg1") ms arg1 arg1′ p.2 q.2 i)
    (optional IsHandle handle_same (codes "arg2") ms arg2 arg2′ p.3 q.3 i)
    (optional IsHandle handle_same (codes "arg3") ms arg3 arg3′ p.4 q.4 i)) payload u.1 v.1
expression_of name payload (e.As expr kind convert) (e.As expr′ kind′ convert′) u v = same_struct _ _ _ _
    (λ ms p q i. e.As (field IsHandle handle_same (codes "expr") ms expr expr′ p.0 q.0 i)
    (field IsKind kind_same (codes "kind") ms kind kind′ p.1 q.1 i)
    (optional IsU8 u8_same (codes "convert") ms convert convert′ p.2 q.2 i)) payload u.1 v.1
expression_of name payload (e.CallResult handle) (e.CallResult handle′) u v = ap e.CallResult
    (newtype IsHandle handle_same payload handle handle′ u.1 v.1)
expression_of name payload (e.AtomicResult ty comparison) (e.AtomicResult ty′ comparison′) u v = same_struct _ _ _ _
    (λ ms p q i. e.AtomicResult (field IsHandle handle_same (codes "ty") ms ty ty′ p.0 q.0 i)
    (field IsTruth truth_same (codes "comparison") ms comparison comparison′ p.1 q.1 i)) payload u.1 v.1
expression_of name payload (e.WorkGroupUniformLoadResult ty) (e.WorkGroupUniformLoadResult ty′) u v = same_struct _ _ _ _
    (λ ms p q i. e.WorkGroupUniformLoadResult (field IsHandle handle_same (codes "ty") ms ty ty′ p q i)) payload u.1 v.1
expression_of name payload (e.ArrayLength handle) (e.ArrayLength handle′) u v = ap e.ArrayLength
    (newtype IsHandle handle_same payload handle handle′ u.1 v.1)
expression_of name payload (e.RayQueryVertexPositions query committed) (e.RayQueryVertexPositions query′ committed′) u v =
    same_struct _ _ _ _
    (λ ms p q i. e.RayQueryVertexPositions (field IsHandle handle_same (codes "query") ms query query′ p.0 q.0 i)
    (field IsTruth truth_same (codes "committed") ms committed committed′ p.1 q.1 i)) payload u.1 v.1
expression_of name payload e.RayQueryProceedResult e.RayQueryProceedResult u v = refl
expression_of name payload (e.RayQueryGetIntersection query committed) (e.RayQueryGetIntersection query′ committed′) u v =
    same_struct _ _ _ _
    (λ ms p q i. e.RayQueryGetIntersection (field IsHandle handle_same (codes "query") ms query query′ p.0 q.0 i)
    (field IsTruth truth_same (codes "committed") ms committed committed′ p.1 q.1 i)) payload u.1 v.1
expression_of name payload e.SubgroupBallotResult e.SubgroupBallotResult u v = refl
expression_of name payload (e.SubgroupOperationResult ty) (e.SubgroupOperationResult ty′) u v = same_struct _ _ _ _
    (λ ms p q i. e.SubgroupOperationResult (field IsHandle handle_same (codes "ty") ms ty ty′ p q i)) payload u.1 v.1
expression_of name payload (e.CooperativeLoad columns rows role tile) (e.CooperativeLoad columns′ rows′ role′ tile′) u v =
    same_struct _ _ _ _
    (λ ms p q i. e.CooperativeLoad (field IsCooperativeSize cooperative_size_same (codes "columns") ms columns columns′ p.0 q.0 i)
    (field IsCooperativeSize cooperative_size_same (codes "rows") ms rows rows′ p.1 q.1 i)
    (field IsRole role_same (codes "role") ms role role′ p.2 q.2 i)
    (field IsTile tile_same (codes "data") ms tile tile′ p.3 q.3 i)) payload u.1 v.1
expression_of name payload (e.CooperativeMultiplyAdd a b c) (e.CooperativeMultiplyAdd a′ b′ c′) u v = same_struct _ _ _ _
    (λ ms p q i. e.CooperativeMultiplyAdd (field IsHandle handle_same (codes "a") ms a a′ p.0 q.0 i)
    (field IsHandle handle_same (codes "b") ms b b′ p.1 q.1 i)
    (field IsHandle handle_same (codes "c") ms c c′ p.2 q.2 i)) payload u.1 v.1
expression_of name payload x y u v = apart (label_expression x) (label_expression y) refl
    (sym (labelled_expression name payload x u) ∙ labelled_expression name payload y v)

pub expression_same : Determines IsExpression
expression_same j x y u v = same_variant _ _ _ _ (λ name payload p q. expression_of name payload x y p q) j u v
