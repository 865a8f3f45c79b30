use Rattle.std.proofs.Common.{Some}
use Rattle.json.specs.Value.{value_view}
use Rattle.shader_json_functions.specs.Statements.{IsSimpleOf}
use Rattle.shader_json_functions.proofs.AcceptLemmas.{under}
use Rattle.shader_json_functions.proofs.statements.simple.Goals as goal

pub returns-in-ControlBarrier-clause-accepts : goal.returns-in-ControlBarrier-clause-accepts
returns-in-ControlBarrier-clause-accepts c =
    under (λ name x. IsSimpleOf name (Some (value_view c.args.payload.value.now)) x) _ _ _ c.in-ControlBarrier.is
    c.control_barrier.ensures.accepts

pub returns-in-MemoryBarrier-clause-accepts : goal.returns-in-MemoryBarrier-clause-accepts
returns-in-MemoryBarrier-clause-accepts c =
    under (λ name x. IsSimpleOf name (Some (value_view c.args.payload.value.now)) x) _ _ _ c.in-MemoryBarrier.is
    c.memory_barrier.ensures.accepts

pub returns-in-WorkGroupUniformLoad-clause-accepts : goal.returns-in-WorkGroupUniformLoad-clause-accepts
returns-in-WorkGroupUniformLoad-clause-accepts c =
    under (λ name x. IsSimpleOf name (Some (value_view c.args.payload.value.now)) x) _ _ _ c.in-WorkGroupUniformLoad.is
    c.uniform_load.ensures.accepts

pub returns-in-CooperativeStore-clause-accepts : goal.returns-in-CooperativeStore-clause-accepts
returns-in-CooperativeStore-clause-accepts c =
    under (λ name x. IsSimpleOf name (Some (value_view c.args.payload.value.now)) x) _ _ _ c.in-CooperativeStore.is
    c.cooperative_store.ensures.accepts

pub returns-in-ImageAtomic-clause-accepts : goal.returns-in-ImageAtomic-clause-accepts
returns-in-ImageAtomic-clause-accepts c =
    under (λ name x. IsSimpleOf name (Some (value_view c.args.payload.value.now)) x) _ _ _ c.in-ImageAtomic.is
    c.image_atomic.ensures.accepts

pub returns-in-RayPipelineFunction-clause-accepts : goal.returns-in-RayPipelineFunction-clause-accepts
returns-in-RayPipelineFunction-clause-accepts c =
    under (λ name x. IsSimpleOf name (Some (value_view c.args.payload.value.now)) x) _ _ _ c.in-RayPipelineFunction.is
    c.ray_pipeline.ensures.accepts

pub returns-in-SubgroupBallot-clause-accepts : goal.returns-in-SubgroupBallot-clause-accepts
returns-in-SubgroupBallot-clause-accepts c =
    under (λ name x. IsSimpleOf name (Some (value_view c.args.payload.value.now)) x) _ _ _ c.in-SubgroupBallot.is
    c.ballot.ensures.accepts

pub returns-in-SubgroupGather-clause-accepts : goal.returns-in-SubgroupGather-clause-accepts
returns-in-SubgroupGather-clause-accepts c =
    under (λ name x. IsSimpleOf name (Some (value_view c.args.payload.value.now)) x) _ _ _ c.in-SubgroupGather.is
    c.gather.ensures.accepts

pub returns-in-SubgroupCollectiveOperation-clause-accepts : goal.returns-in-SubgroupCollectiveOperation-clause-accepts
returns-in-SubgroupCollectiveOperation-clause-accepts c =
    under (λ name x. IsSimpleOf name (Some (value_view c.args.payload.value.now)) x) _ _ _ c.in-SubgroupCollectiveOperation.is
    c.collective.ensures.accepts
