-- What has operands.
use Rattle.std.specs.Prelude.{◌≡◌, ℕ, List, Some, slice_get}
use Rattle.shader_ir.specs.BodyOf.{step_of}
use Rattle.shader_ir.specs.Operands.{expression_operands, statement_operands}
use Rattle.shader_ir.specs.declared.proc.operands.Label.{Label}
use Rattle.report_expressions.specs.Lines.{line_operands}
use Rattle.report_expressions.specs.declared.operands.Parent.{Parent}
use Rattle.report_expressions.specs.declared.operands.Parent.TheVariants as parents

abbrev pub parent_operands : Parent → List (ℕ × Label)
parent_operands (parents.Expression expression) = expression_operands expression.now
parent_operands (parents.Statement statement) = statement_operands (step_of statement.now)
parent_operands (parents.Line line) = line_operands line.now

-- the operand stands at the position, with some label
pub record IsOperandAt (operands : List (ℕ × Label)) (position operand : ℕ) : Type 0 where
  pub label : Label
  pub is : slice_get operands position ≡ Some (operand, label)
