-- The names in a statement other than its operands.
use Rattle.std.specs.Prelude.{ℕ, Option, Some, None}
use Rattle.shader_ir.specs.Body.{Simple, Atomic, WorkGroupUniformLoad, Call, RayQuery, SubgroupBallot}
use Rattle.shader_ir.specs.Body.{SubgroupGather, SubgroupCollectiveOperation, Step, Leaf}
use Rattle.shader_ir.specs.declared.statement.RayQueryFunction.{RayQueryFunction}
use Rattle.shader_ir.specs.declared.statement.RayQueryFunction.TheVariants.{Proceed}

-- the result of a Proceed step
abbrev pub proceed_result : RayQueryFunction → Option ℕ
proceed_result (Proceed result) = Some result
proceed_result _ = None

abbrev pub simple_result : Simple → Option ℕ
simple_result (Atomic pointer fun value result) = Some result
simple_result (WorkGroupUniformLoad pointer result) = Some result
simple_result (Call function arguments result) = result
simple_result (RayQuery query fun) = proceed_result fun
simple_result (SubgroupBallot result predicate) = Some result
simple_result (SubgroupGather mode argument result) = Some result
simple_result (SubgroupCollectiveOperation op collective_op argument result) = Some result
simple_result _ = None

-- the expression that stands for a statement's result
abbrev pub statement_result : Step → Option ℕ
statement_result (Leaf simple) = simple_result simple
statement_result _ = None

abbrev pub simple_callee : Simple → Option ℕ
simple_callee (Call function arguments result) = Some function
simple_callee _ = None

-- the function that a statement calls
abbrev pub statement_callee : Step → Option ℕ
statement_callee (Leaf simple) = simple_callee simple
statement_callee _ = None
