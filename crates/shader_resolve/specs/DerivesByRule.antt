-- Derivations: when a result derives by a typing rule from the types of the operands.
use denote.Ref.{Bor}
use Rattle.std.specs.Prelude.{Option, Some, None, ℕ, ◌≡◌, List, Result, Err, IfOk, MatchResult}
use Rattle.shader_ir.specs.declared.expression.Expression.{Expression}
use Rattle.shader_ir.specs.declared.expression.Expression.TheVariants as form
use Rattle.shader_ir.specs.declared.operators.BinaryOperator.{BinaryOperator}
use Rattle.shader_ir.specs.declared.operators.BinaryOperator.TheVariants as operator
use Rattle.shader_ir.specs.declared.operators.RelationalFunction.TheVariants as relational
use Rattle.shader_ir.specs.declared.types.«Type».{«Type»}
use Rattle.shader_ir.specs.declared.proc.type_resolution.TypeResolution.{TypeResolution}
use Rattle.shader_ir.specs.Key.{FitsTypes, PointsInRange}
use Rattle.shader_resolve.specs.declared.error.ResolveError.{ResolveError}
use Rattle.shader_resolve.specs.Outcome.{ForNothing, ForRules, ForWords, Meets, Memory}
use Rattle.shader_resolve.specs.TypingRules.{TypingRule, Plain, One, Two}

-- the result of the closure for an operand
abbrev pub OperandAnswer : Type 0
OperandAnswer = Result (Bor TypeResolution) ResolveError

-- the purpose of a binary operation's allocations: an operation whose operands may not fit names itself in the error
abbrev pub memory_of_binary : BinaryOperator → Memory
memory_of_binary operator.Multiply = ForWords
memory_of_binary operator.Equal = ForWords
memory_of_binary operator.NotEqual = ForWords
memory_of_binary operator.Less = ForWords
memory_of_binary operator.LessEqual = ForWords
memory_of_binary operator.Greater = ForWords
memory_of_binary operator.GreaterEqual = ForWords
memory_of_binary operator.LogicalAnd = ForWords
memory_of_binary operator.LogicalOr = ForWords
memory_of_binary _ = ForNothing

-- the purpose of an expression's allocations
abbrev pub memory_of : Expression → Memory
memory_of (form.Binary op left right) = memory_of_binary op
memory_of (form.Relational relational.IsNan argument) = ForWords
memory_of (form.Relational relational.IsInf argument) = ForWords
memory_of (form.Math fun arg arg1 arg2 arg3) = ForRules
memory_of (form.As expr kind convert) = ForWords
memory_of _ = ForNothing

module _ (Post : ℕ → OperandAnswer → Type 0) (result : Result TypeResolution ResolveError) where
  -- the closure returns a type of the operand from which the rest derives, or an error that is the result
  abbrev pub Answered : ℕ → (TypeResolution → Type 0) → Type 0
  Answered operand Rest = (reported : OperandAnswer) × Post operand reported ×
      MatchResult reported (λ resolution. Rest resolution.now) (λ failure. result ≡ Err failure)

-- the result derives by the rule: it is the rule's outcome, the first error of an operand, or, if the rule allocates, out of memory
abbrev pub DerivesByRule : Memory → (ℕ → OperandAnswer → Type 0) → Result TypeResolution ResolveError → TypingRule → Type 0
DerivesByRule memory Post result (Plain outcome) = Meets memory result outcome
DerivesByRule memory Post result (One operand answer) = Answered Post result operand (λ resolution. Meets memory result (answer resolution))
DerivesByRule memory Post result (Two left right answer) =
    Answered Post result left (λ first. Answered Post result right (λ second. Meets memory result (answer first second)))

-- the condition holds of each operand that the rule queries
abbrev pub EachQueried : (ℕ → Type 0) → TypingRule → Type 0
EachQueried Pre (Plain outcome) = Unit {0}
EachQueried Pre (One operand answer) = Pre operand
EachQueried Pre (Two left right answer) = Pre left × Pre right

-- the handles of the operand's type are in range
abbrev pub AnswerInRange : List «Type» → OperandAnswer → Type 0
AnswerInRange types reported = IfOk reported (λ resolution. PointsInRange types resolution.now)

-- so they are, and the type is no struct outside the arena
abbrev pub AnswerFits : List «Type» → OperandAnswer → Type 0
AnswerFits types reported = IfOk reported (λ resolution. FitsTypes types resolution.now)

-- the expression looks into a type or through a pointer
abbrev pub IsAccessing : Expression → Type 0
IsAccessing (form.Access base index) = Unit {0}
IsAccessing (form.AccessIndex base index) = Unit {0}
IsAccessing (form.Splat size value) = Unit {0}
IsAccessing (form.Swizzle size vector pattern) = Unit {0}
IsAccessing (form.Load pointer) = Unit {0}
IsAccessing (form.CooperativeLoad columns rows role tile) = Unit {0}
IsAccessing _ = ⊥

-- the expression queries an image
abbrev pub IsOfImage : Expression → Type 0
IsOfImage (form.ImageSample image sampler gather clamp_to_edge coordinate array_index offset level depth_ref) = Unit {0}
IsOfImage (form.ImageLoad image coordinate array_index sample level) = Unit {0}
IsOfImage (form.ImageQuery image query) = Unit {0}
IsOfImage _ = ⊥

-- the expression computes with its operands
abbrev pub IsOperation : Expression → Type 0
IsOperation (form.Unary op expr) = Unit {0}
IsOperation (form.Binary op left right) = Unit {0}
IsOperation (form.Select condition accept reject) = Unit {0}
IsOperation (form.Derivative axis ctrl expr) = Unit {0}
IsOperation (form.Relational fun argument) = Unit {0}
IsOperation (form.As expr kind convert) = Unit {0}
IsOperation (form.CooperativeMultiplyAdd a b c) = Unit {0}
IsOperation _ = ⊥

-- the result meets a rule that queries no operand
abbrev pub MeetsPlain : Memory → Result TypeResolution ResolveError → TypingRule → Type 0
MeetsPlain memory result (Plain outcome) = Meets memory result outcome
MeetsPlain memory result _ = ⊥

-- the expression is of one of the groups that query operands
abbrev pub IsQuerying : Expression → Type 0
IsQuerying (form.Access base index) = Unit {0}
IsQuerying (form.AccessIndex base index) = Unit {0}
IsQuerying (form.Splat size value) = Unit {0}
IsQuerying (form.Swizzle size vector pattern) = Unit {0}
IsQuerying (form.Load pointer) = Unit {0}
IsQuerying (form.CooperativeLoad columns rows role tile) = Unit {0}
IsQuerying (form.ImageSample image sampler gather clamp_to_edge coordinate array_index offset level depth_ref) = Unit {0}
IsQuerying (form.ImageLoad image coordinate array_index sample level) = Unit {0}
IsQuerying (form.ImageQuery image query) = Unit {0}
IsQuerying (form.Unary op expr) = Unit {0}
IsQuerying (form.Binary op left right) = Unit {0}
IsQuerying (form.Select condition accept reject) = Unit {0}
IsQuerying (form.Derivative axis ctrl expr) = Unit {0}
IsQuerying (form.Relational fun argument) = Unit {0}
IsQuerying (form.Math fun arg arg1 arg2 arg3) = Unit {0}
IsQuerying (form.As expr kind convert) = Unit {0}
IsQuerying (form.CooperativeMultiplyAdd a b c) = Unit {0}
IsQuerying _ = ⊥

-- the answer meets a rule that queries no operand, and is none only for expressions that query some
abbrev pub IsLeafAnswer : Option (Result TypeResolution ResolveError) → Expression → TypingRule → Type 0
IsLeafAnswer (Some result) expression queried = MeetsPlain (memory_of expression) result queried
IsLeafAnswer None expression queried = IsQuerying expression
