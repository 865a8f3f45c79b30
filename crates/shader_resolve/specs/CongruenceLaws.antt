-- Laws: equal types of operands give equal types.
use Rattle.std.specs.Prelude.{ℕ, ◌≡◌, ◌⊎◌, List, Option, Result, Ok, Err}
use Rattle.shader_ir.specs.declared.expression.Expression.{Expression}
use Rattle.shader_ir.specs.declared.types.«Type».{«Type»}
use Rattle.shader_ir.specs.declared.proc.type_resolution.TypeResolution.{TypeResolution}
use Rattle.shader_ir.specs.Key.{Key, key_of}
use Rattle.shader_resolve.specs.declared.error.ResolveError.{ResolveError}
use Rattle.shader_resolve.specs.Context.{Context}
use Rattle.shader_resolve.specs.DerivesByRule.{OperandAnswer, EachQueried, DerivesByRule, memory_of}
use Rattle.shader_resolve.specs.Outcome.{Memory, IsOutOfMemoryForCopy, IsOutOfMemoryForType}
use Rattle.shader_resolve.specs.TypingRules.{TypingRule, Plain, One, Two, typing_rule}
use Rattle.shader_resolve.specs.Typing.{outcome_key, typing}

module _ (types : List «Type») where
  -- the typing rule gives types of equal keys at operands of equal keys, or rejects in both cases
  abbrev pub Respects : TypingRule → Type 0
  Respects (Plain outcome) = Unit {0}
  Respects (One operand answer) = (first second : TypeResolution) → key_of types first ≡ key_of types second →
      outcome_key types (answer first) ≡ outcome_key types (answer second)
  Respects (Two left right answer) = (first second third fourth : TypeResolution) → key_of types first ≡ key_of types second →
      key_of types third ≡ key_of types fourth
      → outcome_key types (answer first third) ≡ outcome_key types (answer second fourth)

  -- both operands have types of equal keys, or both are errors
  abbrev pub AnswersHaveEqualKeys : OperandAnswer → OperandAnswer → Type 0
  AnswersHaveEqualKeys (Ok first) (Ok second) = key_of types first.now ≡ key_of types second.now
  AnswersHaveEqualKeys (Err failure) (Err other) = Unit {0}
  AnswersHaveEqualKeys _ _ = ⊥

  -- the two closures return equal keys, or both errors, for each operand that the rule queries
  abbrev pub OperandsHaveEqualKeys : (Post Other : ℕ → OperandAnswer → Type 0) → TypingRule → Type 0
  OperandsHaveEqualKeys Post Other queried =
      EachQueried (λ operand. (reported other : OperandAnswer) → Post operand reported → Other operand other →
      AnswersHaveEqualKeys reported other) queried

  -- both results have equal keys, or both are errors; one alone may be out of memory if the rule allocates for the type, or for a copy of
  -- the type, which has members
  abbrev pub HaveEqualKeys : Memory → Result TypeResolution ResolveError → Result TypeResolution ResolveError → Type 0
  HaveEqualKeys memory (Ok first) (Ok second) = key_of types first ≡ key_of types second
  HaveEqualKeys memory (Err failure) (Err other) = Unit {0}
  HaveEqualKeys memory (Ok resolution) (Err failure) = IsOutOfMemoryForType memory failure ⊎ IsOutOfMemoryForCopy resolution failure
  HaveEqualKeys memory (Err failure) (Ok resolution) = IsOutOfMemoryForType memory failure ⊎ IsOutOfMemoryForCopy resolution failure

-- equal keys of the queried operands give an equal key, or none in both cases
abbrev pub KeysRestOnKeys : Type 0
KeysRestOnKeys =
    (context : Context) (expression : Expression) (keys others : ℕ → Option Key)
    → EachQueried (λ operand. keys operand ≡ others operand) (typing_rule context expression)
    → typing context keys expression ≡ typing context others expression

-- each typing rule respects keys
abbrev pub RulesRespectKeys : Type 0
RulesRespectKeys = (context : Context) (expression : Expression) → Respects context.types (typing_rule context expression)

-- results that derive by an expression's typing rule from equal operand types are equal
abbrev pub ResultsHaveEqualKeys : (Post Other : ℕ → OperandAnswer → Type 0) → Type 0
ResultsHaveEqualKeys Post Other =
    (context : Context) (expression : Expression) (result other : Result TypeResolution ResolveError)
    → OperandsHaveEqualKeys context.types Post Other (typing_rule context expression)
    → DerivesByRule (memory_of expression) Post result (typing_rule context expression) →
    DerivesByRule (memory_of expression) Other other (typing_rule context expression)
    → HaveEqualKeys context.types (memory_of expression) result other
