-- The key of an expression, by the keys of its operands.
use Rattle.std.specs.Prelude.{ℕ, ◌≡◌, ◌⊎◌, List, Option, Some, None, Result, Ok, Err}
use Rattle.shader_ir.specs.declared.types.«Type».{«Type»}
use Rattle.shader_ir.specs.declared.proc.type_resolution.TypeResolution.{TypeResolution}
use Rattle.shader_ir.specs.declared.proc.type_resolution.TypeResolution.TheVariants.{Handle, Value}
use Rattle.shader_ir.specs.Key.{Key, StructKey, InnerKey, key_of}
use Rattle.shader_resolve.specs.declared.error.ResolveError.{ResolveError}
use Rattle.shader_resolve.specs.declared.error.ResolveError.TheVariants.{OutOfMemory}
use Rattle.shader_ir.specs.declared.expression.Expression.{Expression}
use Rattle.shader_resolve.specs.Context.{Context}
use Rattle.shader_resolve.specs.DerivesByRule.{OperandAnswer, EachQueried}
use Rattle.shader_resolve.specs.Outcome.{Outcome, Given}
use Rattle.shader_resolve.specs.TypingRules.{TypingRule, Plain, One, Two, typing_rule}

-- a resolution that has the key
abbrev pub resolution_of_key : Key → TypeResolution
resolution_of_key (StructKey handle) = Handle handle
resolution_of_key (InnerKey inner) = Value inner

-- an outcome at an operand's key, if it has one
abbrev pub at_key : Option Key → (TypeResolution → Option Key) → Option Key
at_key (Some key) answer = answer (resolution_of_key key)
at_key None answer = None

module _ (types : List «Type») where
  abbrev pub outcome_key : Outcome → Option Key
  outcome_key (Given resolution) = Some (key_of types resolution)
  outcome_key _ = None

  -- the key that a typing rule gives, read on keys
  abbrev pub rule_key : (ℕ → Option Key) → TypingRule → Option Key
  rule_key keys (Plain outcome) = outcome_key outcome
  rule_key keys (One operand answer) = at_key (keys operand) (λ reported. outcome_key (answer reported))
  rule_key keys (Two left right answer) = at_key (keys left) (λ first. at_key (keys right) (λ second. outcome_key (answer first second)))

  -- the key of an operand's type
  abbrev pub reported_key : OperandAnswer → Option Key
  reported_key (Ok resolution) = Some (key_of types resolution.now)
  reported_key (Err failure) = None

  -- the queried operands have these keys
  abbrev pub AnswersHaveKeys : (ℕ → OperandAnswer → Type 0) → (ℕ → Option Key) → TypingRule → Type 0
  AnswersHaveKeys Post keys queried =
      EachQueried (λ operand. (reported : OperandAnswer) → Post operand reported → keys operand ≡ reported_key reported) queried

  -- the result has the key, or is an error if there is none; the call may run out of memory
  abbrev pub HasKey : Result TypeResolution ResolveError → Option Key → Type 0
  HasKey (Ok resolution) key = key ≡ Some (key_of types resolution)
  HasKey (Err failure) key = (key ≡ None) ⊎ (failure ≡ OutOfMemory)

-- the key of an expression, by the keys of its operands
abbrev pub typing : Context → (ℕ → Option Key) → Expression → Option Key
typing context keys expression = rule_key context.types keys (typing_rule context expression)
