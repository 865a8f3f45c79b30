-- What an expression reaches by its operands.
use Rattle.std.proofs.Common.{◌≡◌, ℕ, List, Some, slice_get, Bor}
use Rattle.shader_ir.specs.BodyOf.{step_of}
use Rattle.shader_ir.specs.Operands.{expression_operands, statement_operands}
use Rattle.shader_ir.specs.declared.expression.Expression.{Expression}
use Rattle.shader_ir.specs.declared.statement.Statement.{Statement}
use Rattle.shader_ir.specs.declared.proc.operands.Label.{Label}
use Rattle.report_expressions.specs.Lines.{line_operands}
use Rattle.report_expressions.specs.Parents.{IsOperandAt}
use Rattle.report_expressions.specs.Pieces.{AreReached, Reaches}
use Rattle.report_expressions.specs.Pieces.Reaches.{line, operand, made}
use Rattle.report_expressions.specs.declared.line.Source.{Source}

pub are_reached_of : (source : Source) (e : ℕ) (x : Expression) → Reaches source e → slice_get source.function.now.expressions e ≡ Some x →
    AreReached source (expression_operands x)
are_reached_of source e x reached here = record { all = λ k o label is. operand e o k x label reached here is }

pub are_reached_by : (source : Source) (e : ℕ) (maker : Bor Statement) → Reaches source e →
    slice_get source.makers.now.statements.items e ≡ Some (Some maker) → AreReached source (statement_operands (step_of maker.now))
are_reached_by source e maker reached makes = record { all = λ k o label is. made e o k maker label reached makes is }

pub are_reached_from : (source : Source) → AreReached source (line_operands source.line)
are_reached_from source = record { all = λ k o label is. line o k label is }

pub reached_at : (source : Source) (operands : List (ℕ × Label)) (position o : ℕ) → AreReached source operands →
    IsOperandAt operands position o → Reaches source o
reached_at source operands position o reached at = reached.all position o at.label at.is
