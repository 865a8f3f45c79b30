-- The operands that a typing rule queries are operands of the expression.
use Rattle.std.specs.Prelude.{ℕ, ◌<◌}
use Rattle.shader_ir.specs.declared.expression.Expression.{Expression}
use Rattle.shader_resolve.specs.Context.{Context}
use Rattle.shader_resolve.specs.DerivesByRule.{EachQueried}
use Rattle.shader_resolve.specs.TypingRules.{typing_rule}
use Rattle.shader_resolve.specs.WellFormed.{OperandsBelow}

-- if all operands are below a bound, so are the queried ones
abbrev pub QueriedAreOperands : Type 0
QueriedAreOperands =
    (context : Context) (expression : Expression) (bound : ℕ) → OperandsBelow bound expression →
    EachQueried (λ operand. operand < bound) (typing_rule context expression)
