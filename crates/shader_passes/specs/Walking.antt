-- What one walk over the statements of a function finds, beside the flow.
use Rattle.std.specs.Prelude.{ℕ, List, [], ◌∷◌, Option, fold, bit_and, bit_or}
use Rattle.shader_ir.specs.Body.{Call, Leaf, Step}
use Rattle.shader_ir.specs.Occurs.{statements}
use Rattle.shader_ir.specs.Operands.{statement_operands}
use Rattle.shader_ir.specs.declared.function.Function.{Function}
use Rattle.shader_info.specs.declared.flags.GlobalUse.{GlobalUse}
use Rattle.shader_info.specs.declared.info.FunctionInfo.{FunctionInfo}
use Rattle.shader_passes.specs.CalleeUses.{recorded_uses}
use Rattle.shader_passes.specs.Counting.{State, declared_operands, state_after}
use Rattle.shader_passes.specs.Facts.{Fact}
use Rattle.shader_passes.specs.Records.{facts_in}
use Rattle.shader_passes.specs.declared.counting.Counting.{Counting}

-- the facts about the expressions whose operands are counted
abbrev pub facts_by : Counting → List Fact
facts_by counting = facts_in counting.records.now counting.roots.now

-- the uses after those of another function are joined, global by global
abbrev pub joined : List GlobalUse → List GlobalUse → List GlobalUse
joined [] others = []
joined (use' ∷ uses) [] = use' ∷ uses
joined (use' ∷ uses) (other ∷ others) = record use' { 0 = bit_or use'.0 (bit_and other.0 15) } ∷ joined uses others

-- the uses joined with those of the function that a statement calls, if it calls one
abbrev pub with_callee : List FunctionInfo → List GlobalUse → Step → List GlobalUse
with_callee infos uses (Leaf (Call function arguments result)) = joined uses (recorded_uses infos function)
with_callee infos uses _ = uses

-- the records, the uses and an expression whose count overflows, after a call by a statement, if it is one
abbrev pub called_state : List FunctionInfo → State → Step → State
called_state infos state step = (state.0, with_callee infos state.1 step, state.2)

-- the same after a statement, without the blocks inside
abbrev pub step_state : List FunctionInfo → List (Option ℕ) → State → Step → State
step_state infos roots state step = called_state infos (fold (state_after roots) state (statement_operands step)) step

-- the same after all operands and statements of a function
abbrev pub whole_state : List FunctionInfo → List (Option ℕ) → State → Function → State
whole_state infos roots state function =
    fold (step_state infos roots) (fold (state_after roots) state (declared_operands function)) (statements function.body)
