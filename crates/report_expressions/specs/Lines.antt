-- The operands of a line.
use Rattle.std.specs.Prelude.{ℕ, List, [], ◌∷◌}
use Rattle.shader_ir.specs.BodyOf.{step_of}
use Rattle.shader_ir.specs.Operands.{statement_operands}
use Rattle.shader_ir.specs.declared.proc.operands.Label.{Label}
use Rattle.shader_ir.specs.declared.proc.operands.Label.TheVariants.{Read}
use Rattle.report_expressions.specs.declared.line.Line.{Line}
use Rattle.report_expressions.specs.declared.line.Line.TheVariants as lines

abbrev pub line_operands : Line → List (ℕ × Label)
line_operands (lines.Expression e) = (e, Read) ∷ []
line_operands (lines.Place e) = (e, Read) ∷ []
line_operands (lines.Let e) = (e, Read) ∷ []
line_operands (lines.Statement statement) = statement_operands (step_of statement.now)
line_operands (lines.While condition) = (condition, Read) ∷ []
line_operands (lines.For condition store) = (condition, Read) ∷ statement_operands (step_of store.now)
line_operands lines.Else = []
line_operands (lines.Case value) = []
line_operands lines.Continuing = []
line_operands (lines.BreakIf condition) = (condition, Read) ∷ []
