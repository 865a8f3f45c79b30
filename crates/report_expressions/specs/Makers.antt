-- The statements that make results.
use Rattle.std.specs.Prelude.{◌≡◌, ◌==◌, ◌<◌, ℕ, Bool, false, List, Option, Some, None, find, length, map, option_map, slice_index_or}
use Rattle.std.specs.Prelude.{slice_set}
use Rattle.std.specs.Borrow.{Bor}
use Rattle.std.specs.Option.{option_or}
use Rattle.shader_ir.specs.BodyOf.{step_of}
use Rattle.shader_ir.specs.Body.{Body, Step, Leaf, Atomic, WorkGroupUniformLoad, Call, RayQuery, SubgroupBallot, SubgroupGather}
use Rattle.shader_ir.specs.Body.{SubgroupCollectiveOperation}
use Rattle.shader_ir.specs.Occurs.{statements}
use Rattle.shader_ir.specs.declared.function.Function.{Function}
use Rattle.shader_ir.specs.declared.statement.Statement.{Statement}
use Rattle.shader_ir.specs.declared.statement.RayQueryFunction.TheVariants.{Proceed}

-- the expression that a statement names as its result
abbrev pub result_of : Step → Option ℕ
result_of (Leaf (Atomic pointer fun value result)) = Some result
result_of (Leaf (WorkGroupUniformLoad pointer result)) = Some result
result_of (Leaf (Call function arguments result)) = result
result_of (Leaf (RayQuery query (Proceed result))) = Some result
result_of (Leaf (SubgroupBallot result predicate)) = Some result
result_of (Leaf (SubgroupGather mode argument result)) = Some result
result_of (Leaf (SubgroupCollectiveOperation op collective_op argument result)) = Some result
result_of _ = None

abbrev pub is_among : Option ℕ → ℕ → Bool
is_among None e = false
is_among (Some result) e = result == e

-- the first statement in the text that names the expression as its result
abbrev pub maker_of : Body → ℕ → Option Step
maker_of body e = find (λ step. is_among (result_of step) e) (statements body)

abbrev pub steps_of : List (Option (Bor Statement)) → List (Option Step)
steps_of table = map (option_map (λ maker. step_of maker.now)) table

-- a statement is noted for the expression that it makes, unless an earlier one is
abbrev pub noted_at : List (Option Step) → Option ℕ → Step → List (Option Step)
noted_at table None step = table
noted_at table (Some e) step = slice_set table e (option_or (slice_index_or table e None) (Some step))

abbrev pub noted : List (Option Step) → Step → List (Option Step)
noted table step = noted_at table (result_of step) step

-- each expression of the function has the first statement that makes it
pub record AreMakers (function : Function) (table : List (Option (Bor Statement))) : Type 0 where
  pub count : length table ≡ length function.expressions
  pub each : (e : ℕ) → e < length function.expressions → slice_index_or (steps_of table) e None ≡ maker_of function.body e
