-- What a piece of a line may say: only what the line and the expressions that it reaches name.
use Rattle.std.specs.Prelude.{◌≡◌, ℕ, List, [], ◌∷◌, Option, Some, None, ⊤, slice_get}
use Rattle.std.specs.Borrow.{Bor}
use Rattle.shader_ir.specs.BodyOf.{step_of}
use Rattle.shader_ir.specs.Operands.{expression_operands, statement_operands}
use Rattle.shader_ir.specs.declared.expression.Expression.{Expression}
use Rattle.shader_ir.specs.declared.expression.Expression.TheVariants as forms
use Rattle.shader_ir.specs.declared.proc.operands.Label.{Label}
use Rattle.shader_ir.specs.declared.statement.Statement.{Statement}
use Rattle.report_expressions.specs.Lines.{line_operands}
use Rattle.report_expressions.specs.declared.line.Source.{Source}
use Rattle.report_expressions.specs.declared.pieces.Piece.{Piece}
use Rattle.report_expressions.specs.declared.pieces.Word.{Word}
use Rattle.report_expressions.specs.declared.pieces.Word.TheVariants as words

-- an expression that the line reaches: an operand of the line, of an expression that it reaches, or of the statement that makes one
pub data Reaches (source : Source) : ℕ → Type 0 where
  line : (o k : ℕ) (label : Label) → slice_get (line_operands source.line) k ≡ Some (o, label) → Reaches source o
  operand : (e o k : ℕ) (x : Expression) (label : Label) → Reaches source e → slice_get source.function.now.expressions e ≡ Some x →
      slice_get (expression_operands x) k ≡ Some (o, label) → Reaches source o
  made : (e o k : ℕ) (maker : Bor Statement) (label : Label) → Reaches source e →
      slice_get source.makers.now.statements.items e ≡ Some (Some maker) →
      slice_get (statement_operands (step_of maker.now)) k ≡ Some (o, label) → Reaches source o

-- all of these operands are reached
pub record AreReached (source : Source) (operands : List (ℕ × Label)) : Type 0 where
  pub all : (k o : ℕ) (label : Label) → slice_get operands k ≡ Some (o, label) → Reaches source o

-- the expression is of this type by its form
abbrev pub IsOfType : Option Expression → ℕ → Type 0
IsOfType (Some (forms.ZeroValue ty)) t = ty ≡ t
IsOfType (Some (forms.Compose ty components)) t = ty ≡ t
IsOfType _ t = ⊥

-- the word names nothing but what the expression is
abbrev pub IsWordOf : ℕ → Option Expression → Word → Type 0
IsWordOf e x (words.Literal literal) = x ≡ Some (forms.Literal literal)
IsWordOf e x (words.Argument i) = x ≡ Some (forms.FunctionArgument i)
IsWordOf e x (words.Constant i) = x ≡ Some (forms.Constant i)
IsWordOf e x (words.Override i) = x ≡ Some (forms.Override i)
IsWordOf e x (words.Global i) = x ≡ Some (forms.GlobalVariable i)
IsWordOf e x (words.Local i) = x ≡ Some (forms.LocalVariable i)
IsWordOf e x (words.Function i) = x ≡ Some (forms.CallResult i)
IsWordOf e x (words.«Type» t) = IsOfType x t
IsWordOf e x (words.Named i) = e ≡ i
IsWordOf e x (words.Numbered i) = e ≡ i
IsWordOf e x _ = ⊤

abbrev pub IsSaidBy : Source → Option ℕ → Word → Type 0
IsSaidBy source None word = ⊤
IsSaidBy source (Some e) word = Reaches source e × IsWordOf e (slice_get source.function.now.expressions e) word

-- the line or an expression that it reaches says the word of the piece
pub record IsSaid (source : Source) (piece : Piece) : Type 0 where
  pub by : IsSaidBy source piece.of piece.word

abbrev pub AreSaid : Source → List Piece → Type 0
AreSaid source [] = ⊤
AreSaid source (piece ∷ pieces) = IsSaid source piece × AreSaid source pieces
