-- Occurrences of expressions in a function.
use Rattle.std.specs.Prelude.{◌≡◌, ℕ, List, [], ◌∷◌, ◌++◌, Some, slice_get}
use Rattle.std.specs.List.{flat_map}
use Rattle.shader_ir.specs.Body.{Body, End, Then, Step, Leaf, Nested, If, Switch, Loop, Cases, NoCase, Case}
use Rattle.shader_ir.specs.Operands.{expression_operands, statement_operands}
use Rattle.shader_ir.specs.Slots.{retained, read_optional}
use Rattle.shader_ir.specs.declared.expression.Expression.{Expression}
use Rattle.shader_ir.specs.declared.expression.Expression.TheVariants.{GlobalVariable, Access, AccessIndex}
use Rattle.shader_ir.specs.declared.function.Function.{Function}
use Rattle.shader_ir.specs.declared.function.LocalVariable.{LocalVariable}
use Rattle.shader_ir.specs.declared.proc.operands.Label.{Label}

-- the statements at any depth, in the order of the text, each before the statements of its blocks
abbrev mutual
  pub statements : Body → List Step
  statements End = []
  statements (Then step rest) = step ∷ (statements_within step ++ statements rest)

  -- the statements in the blocks of a statement
  pub statements_within : Step → List Step
  statements_within (Leaf simple) = []
  statements_within (Nested body) = statements body
  statements_within (If condition accept reject) = statements accept ++ statements reject
  statements_within (Switch selector cases) = case_statements cases
  statements_within (Loop body continuing break_if) = statements body ++ statements continuing

  pub case_statements : Cases → List Step
  case_statements NoCase = []
  case_statements (Case value body fall_through rest) = statements body ++ case_statements rest

-- the operands of a local variable: its initial value
abbrev pub local_operands : LocalVariable → List (ℕ × Label)
local_operands local = retained (read_optional local.init ∷ [])

-- all occurrences of operands: in the expressions, in the initial values of local variables, and in the statements at any depth
abbrev pub occurrences : Function → List (ℕ × Label)
occurrences function =
    flat_map expression_operands function.expressions
    ++ flat_map local_operands function.local_variables
    ++ flat_map statement_operands (statements function.body)

-- the expression at a position is the global, or an Access or AccessIndex whose chain of bases ends at it
pub data Root (expressions : List Expression) : ℕ → ℕ → Type 0 where
  global : {e g : ℕ} → slice_get expressions e ≡ Some (GlobalVariable g) → Root expressions e g
  access : {e base index g : ℕ} → slice_get expressions e ≡ Some (Access base index) → Root expressions base g → Root expressions e g
  access_index : {e base index g : ℕ} → slice_get expressions e ≡ Some (AccessIndex base index) → Root expressions base g →
      Root expressions e g
