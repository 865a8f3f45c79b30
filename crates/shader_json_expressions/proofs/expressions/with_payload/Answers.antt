use Rattle.std.proofs.Common.{Some}
use Rattle.json.specs.Value.{value_view}
use Rattle.shader_ir.specs.declared.expression.Expression.TheVariants as e
use Rattle.shader_json_expressions.proofs.AnswerLemmas.{given, renamed}
use Rattle.shader_json_expressions.proofs.expressions.with_payload.Goals as goal

pub returns-in-AccessIndex-clause-accepts : goal.returns-in-AccessIndex-clause-accepts
returns-in-AccessIndex-clause-accepts c = λ x u.
    c.access_index.ensures.accepts x (renamed _ _ (Some (value_view c.args.payload.value.now)) x c.in-AccessIndex.is u)

pub returns-in-ImageSample-clause-accepts : goal.returns-in-ImageSample-clause-accepts
returns-in-ImageSample-clause-accepts c = λ x u.
    c.image_sample.ensures.accepts x (renamed _ _ (Some (value_view c.args.payload.value.now)) x c.in-ImageSample.is u)

pub returns-in-AtomicResult-clause-accepts : goal.returns-in-AtomicResult-clause-accepts
returns-in-AtomicResult-clause-accepts c = λ x u.
    c.atomic_result.ensures.accepts x (renamed _ _ (Some (value_view c.args.payload.value.now)) x c.in-AtomicResult.is u)

pub returns-in-WorkGroupUniformLoadResult-clause-accepts : goal.returns-in-WorkGroupUniformLoadResult-clause-accepts
returns-in-WorkGroupUniformLoadResult-clause-accepts c = λ x u.
    c.work_group_uniform_load_result.ensures.accepts x
    (renamed _ _ (Some (value_view c.args.payload.value.now)) x c.in-WorkGroupUniformLoadResult.is u)

pub returns-in-RayQueryVertexPositions-clause-accepts : goal.returns-in-RayQueryVertexPositions-clause-accepts
returns-in-RayQueryVertexPositions-clause-accepts c = λ x u.
    c.ray_query_vertex_positions.ensures.accepts x
    (renamed _ _ (Some (value_view c.args.payload.value.now)) x c.in-RayQueryVertexPositions.is u)

pub returns-in-RayQueryGetIntersection-clause-accepts : goal.returns-in-RayQueryGetIntersection-clause-accepts
returns-in-RayQueryGetIntersection-clause-accepts c = λ x u.
    c.ray_query_get_intersection.ensures.accepts x
    (renamed _ _ (Some (value_view c.args.payload.value.now)) x c.in-RayQueryGetIntersection.is u)

pub returns-in-SubgroupOperationResult-clause-accepts : goal.returns-in-SubgroupOperationResult-clause-accepts
returns-in-SubgroupOperationResult-clause-accepts c = λ x u.
    c.subgroup_operation_result.ensures.accepts x
    (renamed _ _ (Some (value_view c.args.payload.value.now)) x c.in-SubgroupOperationResult.is u)

pub returns-in-CooperativeLoad-clause-accepts : goal.returns-in-CooperativeLoad-clause-accepts
returns-in-CooperativeLoad-clause-accepts c = λ x u.
    c.cooperative_load.ensures.accepts x (renamed _ _ (Some (value_view c.args.payload.value.now)) x c.in-CooperativeLoad.is u)

pub returns-in-CooperativeMultiplyAdd-clause-accepts : goal.returns-in-CooperativeMultiplyAdd-clause-accepts
returns-in-CooperativeMultiplyAdd-clause-accepts c = λ x u.
    c.cooperative_multiply_add.ensures.accepts x
    (renamed _ _ (Some (value_view c.args.payload.value.now)) x c.in-CooperativeMultiplyAdd.is u)

pub returns-in_default-clause-accepts : goal.returns-in_default-clause-accepts
returns-in_default-clause-accepts c (e.Literal literal) u = absurd (c.in_default.not-Literal u.0)
returns-in_default-clause-accepts c (e.Constant handle) u = absurd (c.in_default.not-Constant u.0)
returns-in_default-clause-accepts c (e.Override handle) u = absurd (c.in_default.not-Override u.0)
returns-in_default-clause-accepts c (e.ZeroValue ty) u = absurd (c.in_default.not-ZeroValue u.0)
returns-in_default-clause-accepts c (e.Compose ty components) u = absurd (c.in_default.not-Compose u.0)
returns-in_default-clause-accepts c (e.Access base index) u = absurd (c.in_default.not-Access u.0)
returns-in_default-clause-accepts c (e.AccessIndex base index) u = absurd (c.in_default.not-AccessIndex u.0)
returns-in_default-clause-accepts c (e.Splat size value) u = absurd (c.in_default.not-Splat u.0)
returns-in_default-clause-accepts c (e.Swizzle size vector pattern) u = absurd (c.in_default.not-Swizzle u.0)
returns-in_default-clause-accepts c (e.FunctionArgument number) u = absurd (c.in_default.not-FunctionArgument u.0)
returns-in_default-clause-accepts c (e.GlobalVariable handle) u = absurd (c.in_default.not-GlobalVariable u.0)
returns-in_default-clause-accepts c (e.LocalVariable handle) u = absurd (c.in_default.not-LocalVariable u.0)
returns-in_default-clause-accepts c (e.Load pointer) u = absurd (c.in_default.not-Load u.0)
returns-in_default-clause-accepts c
    (e.ImageSample image sampler gather clamp_to_edge coordinate array_index offset level depth_ref) u =
    absurd (c.in_default.not-ImageSample u.0)
returns-in_default-clause-accepts c (e.ImageLoad image coordinate array_index sample level) u = absurd (c.in_default.not-ImageLoad u.0)
returns-in_default-clause-accepts c (e.ImageQuery image query) u = absurd (c.in_default.not-ImageQuery u.0)
returns-in_default-clause-accepts c (e.Unary op expr) u = absurd (c.in_default.not-Unary u.0)
returns-in_default-clause-accepts c (e.Binary op left right) u = absurd (c.in_default.not-Binary u.0)
returns-in_default-clause-accepts c (e.Select condition accept reject) u = absurd (c.in_default.not-Select u.0)
returns-in_default-clause-accepts c (e.Derivative axis ctrl expr) u = absurd (c.in_default.not-Derivative u.0)
returns-in_default-clause-accepts c (e.Relational fun argument) u = absurd (c.in_default.not-Relational u.0)
returns-in_default-clause-accepts c (e.Math fun arg arg1 arg2 arg3) u = absurd (c.in_default.not-Math u.0)
returns-in_default-clause-accepts c (e.As expr kind convert) u = absurd (c.in_default.not-As u.0)
returns-in_default-clause-accepts c (e.CallResult handle) u = absurd (c.in_default.not-CallResult u.0)
returns-in_default-clause-accepts c (e.AtomicResult ty comparison) u = absurd (c.in_default.not-AtomicResult u.0)
returns-in_default-clause-accepts c (e.WorkGroupUniformLoadResult ty) u = absurd (c.in_default.not-WorkGroupUniformLoadResult u.0)
returns-in_default-clause-accepts c (e.ArrayLength handle) u = absurd (c.in_default.not-ArrayLength u.0)
returns-in_default-clause-accepts c (e.RayQueryVertexPositions query committed) u = absurd (c.in_default.not-RayQueryVertexPositions u.0)
returns-in_default-clause-accepts c e.RayQueryProceedResult u = absurd (given _ u.1)
returns-in_default-clause-accepts c (e.RayQueryGetIntersection query committed) u = absurd (c.in_default.not-RayQueryGetIntersection u.0)
returns-in_default-clause-accepts c e.SubgroupBallotResult u = absurd (given _ u.1)
returns-in_default-clause-accepts c (e.SubgroupOperationResult ty) u = absurd (c.in_default.not-SubgroupOperationResult u.0)
returns-in_default-clause-accepts c (e.CooperativeLoad columns rows role tile) u = absurd (c.in_default.not-CooperativeLoad u.0)
returns-in_default-clause-accepts c (e.CooperativeMultiplyAdd first second third) u = absurd (c.in_default.not-CooperativeMultiplyAdd u.0)
