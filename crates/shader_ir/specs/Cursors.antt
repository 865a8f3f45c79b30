-- Iterators over operands that keep a position.
use Rattle.std.specs.Prelude.{◌≤◌, ℕ, zero, suc, List, Option, Some, None, drop, length}
use Rattle.shader_ir.specs.BodyOf.{step_of}
use Rattle.shader_ir.specs.Operands.{expression_operands, statement_operands}
use Rattle.shader_ir.specs.Slots.{reads}
use Rattle.shader_ir.specs.declared.proc.operands.Label.{Label}
use Rattle.shader_ir.specs.declared.proc.operands.Rest.{Rest}
use Rattle.shader_ir.specs.declared.proc.operands.Rest.TheVariants as rest
use Rattle.shader_ir.specs.declared.proc.operands.Search.{Search}
use Rattle.shader_ir.specs.declared.proc.operands.Search.TheVariants.{Ahead, Found}

-- the search after one more operand
abbrev pub search_after : Search → ℕ × Label → Search
search_after (Ahead zero) operand = Found operand.0 operand.1
search_after (Ahead (suc count)) operand = Ahead count
search_after (Found operand label) next = Found operand label

-- the operand that was found
abbrev pub found_operand : Search → Option (ℕ × Label)
found_operand (Ahead count) = None
found_operand (Found operand label) = Some (operand, label)

-- the operands that are left
abbrev pub operands_left : Rest → List (ℕ × Label)
operands_left (rest.Expression expression position) = drop position (expression_operands expression.now)
operands_left (rest.Statement statement position) = drop position (statement_operands (step_of statement.now))
operands_left (rest.List list) = reads list.now

-- not more than eight operands, except in a list
abbrev pub IsShort : Rest → Type 0
IsShort (rest.Expression expression position) = length (expression_operands expression.now) ≤ 8
IsShort (rest.Statement statement position) = length (statement_operands (step_of statement.now)) ≤ 8
IsShort (rest.List list) = Unit {0}
