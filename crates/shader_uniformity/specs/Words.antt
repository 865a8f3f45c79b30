-- The words of other crates that the definitions use, in one file.
pub use Rattle.shader_arena.specs.Positions.{positions_between}
pub use Rattle.shader_ir.specs.Body.{Body, End, Then, Step, Leaf, Nested, If, Switch, Loop, Cases, NoCase, Case, Simple}
pub use Rattle.shader_ir.specs.Body.{Emit, Break, Continue, Return, Kill, ControlBarrier, MemoryBarrier, Store, ImageStore}
pub use Rattle.shader_ir.specs.Body.{Atomic, ImageAtomic, WorkGroupUniformLoad, Call, RayQuery, RayPipeline, SubgroupBallot}
pub use Rattle.shader_ir.specs.Body.{SubgroupGather, SubgroupCollectiveOperation, CooperativeStore}
pub use Rattle.shader_ir.specs.Operands.{expression_operands}
pub use Rattle.shader_ir.specs.declared.binding.Binding.{Binding}
pub use Rattle.shader_ir.specs.declared.binding.BuiltIn.{BuiltIn}
pub use Rattle.shader_ir.specs.declared.expression.CooperativeData.{CooperativeData}
pub use Rattle.shader_ir.specs.declared.expression.Expression.{Expression}
pub use Rattle.shader_ir.specs.declared.expression.SampleLevel.{SampleLevel}
pub use Rattle.shader_ir.specs.declared.flags.StorageAccess.{StorageAccess}
pub use Rattle.shader_ir.specs.declared.function.Function.{Function}
pub use Rattle.shader_ir.specs.declared.function.EntryPoint.{EntryPoint}
pub use Rattle.shader_ir.specs.declared.function.FunctionArgument.{FunctionArgument}
pub use Rattle.shader_ir.specs.declared.image.ImageClass.{ImageClass}
pub use Rattle.shader_ir.specs.declared.module.DiagnosticFilterNode.{DiagnosticFilterNode}
pub use Rattle.shader_ir.specs.declared.module.DiagnosticRule.{DiagnosticRule}
pub use Rattle.shader_ir.specs.declared.module.GlobalVariable.{GlobalVariable}
pub use Rattle.shader_ir.specs.declared.module.Module.{Module}
pub use Rattle.shader_ir.specs.declared.module.Severity.{Severity}
pub use Rattle.shader_ir.specs.declared.proc.operands.Label.{Label}
pub use Rattle.shader_ir.specs.declared.statement.RayPipelineFunction.{RayPipelineFunction}
pub use Rattle.shader_ir.specs.declared.statement.RayQueryFunction.{RayQueryFunction}
pub use Rattle.shader_ir.specs.declared.types.AddressSpace.{AddressSpace}
pub use Rattle.shader_ir.specs.declared.types.Type.{«Type»}
pub use Rattle.shader_ir.specs.declared.types.TypeInner.{TypeInner}
