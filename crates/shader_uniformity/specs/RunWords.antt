-- The words of other crates that runs use beside those of the definitions.
pub use Rattle.shader_ir.specs.declared.flags.Barrier.{Barrier}
pub use Rattle.shader_ir.specs.declared.statement.AtomicFunction.{AtomicFunction}
pub use Rattle.shader_ir.specs.declared.statement.CollectiveOperation.{CollectiveOperation}
pub use Rattle.shader_ir.specs.declared.statement.GatherMode.{GatherMode}
pub use Rattle.shader_ir.specs.declared.statement.SubgroupOperation.{SubgroupOperation}
pub use Rattle.shader_ir.specs.declared.statement.SwitchValue.{SwitchValue}
