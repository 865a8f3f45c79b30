-- The operands that a typing rule queries are operands of the expression.
use Rattle.std.proofs.Common.{ℕ, Some, None, arith}
use Rattle.shader_ir.specs.declared.expression.Expression.TheVariants as form
use Rattle.shader_ir.specs.declared.expression.ImageQuery.TheVariants as query
use Rattle.shader_ir.specs.declared.operators.BinaryOperator.TheVariants as operator
use Rattle.shader_ir.specs.declared.operators.RelationalFunction.TheVariants as relational
use Rattle.shader_ir.specs.declared.proc.operands.Label.TheVariants.{Read}
use Rattle.shader_resolve.specs.QueriedLaws.{QueriedAreOperands}
use Rattle.shader_resolve.specs.DerivesByRule.{EachQueried}
use Rattle.shader_resolve.specs.TypingRules.{TypingRule, Plain, One, Two}

pub queried : QueriedAreOperands
queried context (form.Access base index) bound below = below 0 (0, Read) (omega arith)
queried context (form.AccessIndex base index) bound below = below 0 (0, Read) (omega arith)
queried context (form.Splat size value) bound below = below 0 (0, Read) (omega arith)
queried context (form.Swizzle size vector pattern) bound below = below 0 (0, Read) (omega arith)
queried context (form.Load pointer) bound below = below 0 (0, Read) (omega arith)
queried context (form.ImageSample image sampler (Some gather) clamp_to_edge coordinate array_index offset level depth_ref) bound below =
    below 0 (0, Read) (omega arith)
queried context (form.ImageSample image sampler None clamp_to_edge coordinate array_index offset level depth_ref) bound below =
    below 0 (0, Read) (omega arith)
queried context (form.ImageLoad image coordinate array_index sample level) bound below = below 0 (0, Read) (omega arith)
queried context (form.ImageQuery image (query.Size level)) bound below = below 0 (0, Read) (omega arith)
queried context (form.ImageQuery image other) bound below = tt
queried context (form.Unary op expr) bound below = below 0 (0, Read) (omega arith)
queried context (form.Binary operator.Multiply left right) bound below = (below 0 (0, Read) (omega arith), below 1 (0, Read) (omega arith))
queried context (form.Binary op left right) bound below = below 0 (0, Read) (omega arith)
queried context (form.Select condition accept reject) bound below = below 1 (0, Read) (omega arith)
queried context (form.Derivative axis ctrl expr) bound below = below 0 (0, Read) (omega arith)
queried context (form.Relational relational.IsNan argument) bound below = below 0 (0, Read) (omega arith)
queried context (form.Relational relational.IsInf argument) bound below = below 0 (0, Read) (omega arith)
queried context (form.Relational fun argument) bound below = tt
queried context (form.Math fun arg None arg2 arg3) bound below = below 0 (0, Read) (omega arith)
queried context (form.Math fun arg (Some arg1) arg2 arg3) bound below = (below 0 (0, Read) (omega arith), below 1 (0, Read) (omega arith))
queried context (form.As expr kind convert) bound below = below 0 (0, Read) (omega arith)
queried context (form.CooperativeLoad columns rows role tile) bound below = below 0 (0, Read) (omega arith)
queried context (form.CooperativeMultiplyAdd a b c) bound below = below 2 (0, Read) (omega arith)
queried context expression bound below = tt

-- an implication for each operand holds for each queried one
pub each-queried : (P Q : ℕ → Type 0) → ((operand : ℕ) → P operand → Q operand) → (queries : TypingRule) → EachQueried P queries →
    EachQueried Q queries
each-queried P Q weaker (Plain outcome) stored = tt
each-queried P Q weaker (One operand answer) stored = weaker operand stored
each-queried P Q weaker (Two left right answer) stored = (weaker left stored.0, weaker right stored.1)
