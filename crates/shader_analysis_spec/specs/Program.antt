-- The data that the definitions are about, and the statements, expressions and operands of a function.
use Rattle.std.specs.Prelude.{◌≡◌, ℕ, Some, slice_get}
pub use Rattle.shader_ir.specs.Body.{Body, End, Then, Step, Leaf, Nested, If, Switch, Loop, Cases, NoCase, Case, Simple}
pub use Rattle.shader_ir.specs.Body.{Emit, Break, Continue, Return, Kill, ControlBarrier, MemoryBarrier, Store, ImageStore}
pub use Rattle.shader_ir.specs.Body.{Atomic, ImageAtomic, WorkGroupUniformLoad, Call, RayQuery, RayPipeline, SubgroupBallot}
pub use Rattle.shader_ir.specs.Body.{SubgroupGather, SubgroupCollectiveOperation, CooperativeStore}
pub use Rattle.shader_ir.specs.Occurs.{statements, statements_within, case_statements, occurrences, Root}
pub use Rattle.shader_ir.specs.Operands.{expression_operands, simple_operands, statement_operands}
pub use Rattle.shader_ir.specs.declared.expression.Expression.{Expression}
pub use Rattle.shader_ir.specs.declared.function.Function.{Function}
pub use Rattle.shader_ir.specs.declared.module.Module.{Module}
pub use Rattle.shader_ir.specs.declared.proc.operands.Label.{Label}

-- the expression at a position of a function
abbrev pub IsExpressionAt : Function → ℕ → Expression → Type 0
IsExpressionAt f e x = slice_get f.expressions e ≡ Some x
