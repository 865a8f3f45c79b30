-- A result that derives by a typing rule has the rule's key.
use Rattle.std.proofs.Common.{◌≡◌, ◌∙◌, ap, sym, refl, subst, ℕ, List, Option, Some, None, Result, Ok, Err, inl, inr}
use Rattle.shader_ir.specs.declared.proc.type_resolution.TypeResolution.{TypeResolution}
use Rattle.shader_ir.specs.Key.{Key, key_of}
use Rattle.shader_resolve.specs.declared.error.ResolveError.{ResolveError}
use Rattle.shader_ir.specs.declared.expression.Expression.{Expression}
use Rattle.shader_resolve.specs.Context.{Context}
use Rattle.shader_resolve.specs.DerivesByRule.{OperandAnswer, Answered, DerivesByRule, EachQueried, MeetsPlain}
use Rattle.shader_resolve.specs.Outcome.{Given, Meets, Memory, Outcome, Refused}
use Rattle.shader_resolve.specs.TypingRules.{TypingRule, Plain, One, Two, typing_rule}
use Rattle.shader_resolve.specs.Typing.{reported_key, resolution_of_key, at_key, outcome_key, rule_key, AnswersHaveKeys, HasKey, typing}
use Rattle.shader_resolve.proofs.MemoryLemmas.{for_type, wanted}
use Rattle.shader_resolve.proofs.RuleLemmas.{Respects, typing_rule-respects}
use Rattle.shader_resolve.proofs.TypingLemmas.{key_of-resolution_of_key}
use Rattle.shader_ir.specs.declared.types.«Type».{«Type»}

-- equal keys of the queried operands give one key, or none
pub rule_key-agrees : (types : List «Type») (queried : TypingRule) (keys others : ℕ → Option Key) →
    EachQueried (λ operand. keys operand ≡ others operand) queried → rule_key types keys queried ≡ rule_key types others queried
rule_key-agrees types (Plain outcome) keys others same = refl
rule_key-agrees types (One operand answer) keys others same = ap (λ key. at_key key (λ reported. outcome_key types (answer reported))) same
rule_key-agrees types (Two left right answer) keys others same =
    ap (λ key. at_key key (λ first. at_key (keys right) (λ second. outcome_key types (answer first second)))) same.0
    ∙ ap (λ key. at_key (others left) (λ first. at_key key (λ second. outcome_key types (answer first second)))) same.1

-- a result that meets a rule without queried operands derives by it
pub plain_derives : (memory : Memory) (Post : ℕ → OperandAnswer → Type 0) (result : Result TypeResolution ResolveError) (queried :
    TypingRule) →
    MeetsPlain memory result queried → DerivesByRule memory Post result queried
plain_derives memory Post result (Plain outcome) meets = meets
plain_derives memory Post result (One operand answer) meets = absurd meets
plain_derives memory Post result (Two left right answer) meets = absurd meets

at_key-same : (key : Option Key) (first second : TypeResolution → Option Key) →
    ((reported : TypeResolution) → first reported ≡ second reported) →
    at_key key first ≡ at_key key second
at_key-same (Some key) first second same = same (resolution_of_key key)
at_key-same None first second same = refl

module _ (memory : Memory) (types : List «Type») where
  meets-key : (result : Result TypeResolution ResolveError) (outcome : Outcome) → Meets memory result outcome →
      HasKey types result (outcome_key types outcome)
  meets-key (Ok resolution) (Given given) meets = ap (λ reported. Some (key_of types reported)) (sym meets)
  meets-key (Ok resolution) (Refused refusal) meets = absurd meets
  meets-key (Err failure) (Given given) (inl for_rule) = inr (wanted memory failure (for_type memory failure for_rule))
  meets-key (Err failure) (Given given) (inr for_copy) = inr for_copy.1
  meets-key (Err failure) (Refused refusal) meets = inl refl

  failed : (result : Result TypeResolution ResolveError) (failure : ResolveError) → result ≡ Err failure → HasKey types result None
  failed result failure is = subst (λ answer. HasKey types answer None) (sym is) (inl refl)

  along : (result : Result TypeResolution ResolveError) (key other : Option Key) → key ≡ other → HasKey types result other →
      HasKey types result key
  along result key other same has = subst (λ reported. HasKey types result reported) (sym same) has

  module _ (Post : ℕ → OperandAnswer → Type 0) (result : Result TypeResolution ResolveError) (keys : ℕ → Option Key) where
    one : (operand : ℕ) (answer : TypeResolution → Outcome) →
        ((reported : OperandAnswer) → Post operand reported → keys operand ≡ reported_key types reported) →
        Respects types (One operand answer) → Answered Post result operand (λ reported. Meets memory result (answer reported)) →
        HasKey types result (rule_key types keys (One operand answer))
    one operand answer reports respects (Ok reported, posted, meets) =
        along result _ _
        (ap (λ key. at_key key (λ there. outcome_key types (answer there))) (reports (Ok reported) posted)
        ∙ respects (resolution_of_key (key_of types reported.now)) reported.now (key_of-resolution_of_key types reported.now))
        (meets-key result (answer reported.now) meets)
    one operand answer reports respects (Err failure, posted, is) =
        along result _ _ (ap (λ key. at_key key (λ there. outcome_key types (answer there))) (reports (Err failure) posted))
        (failed result failure is)

    -- the result has the key that the rule gives on keys
    pub follows-key : (queried : TypingRule) → AnswersHaveKeys types Post keys queried → Respects types queried →
        DerivesByRule memory Post result queried →
        HasKey types result (rule_key types keys queried)
    follows-key (Plain outcome) reports respects follows = meets-key result outcome follows
    follows-key (One operand answer) reports respects follows = one operand answer reports respects follows
    follows-key (Two left right answer) reports respects (Err failure, posted, is) =
        along result _ _ (ap (λ key. at_key key (λ first. at_key (keys right) (λ second. outcome_key types (answer first second))))
        (reports.0 (Err failure) posted)) (failed result failure is)
    follows-key (Two left right answer) reports respects (Ok first, posted, follows) =
        let key = key_of types first.now in
        along result _ _
        (ap (λ reported. at_key reported (λ there. at_key (keys right) (λ second. outcome_key types (answer there second))))
        (reports.0 (Ok first) posted)
        ∙ at_key-same (keys right) _ _
        (λ second. respects (resolution_of_key key) first.now second second (key_of-resolution_of_key types first.now) refl))
        (one right (λ second. answer first.now second) reports.1
        (λ second third same. respects first.now first.now second third refl same) follows)

-- the result for an expression has the key that typing gives by the keys of its operands
pub resolved-key : (context : Context) (expression : Expression) (memory : Memory) (Post : ℕ → OperandAnswer →
    Type 0) (result : Result TypeResolution ResolveError)
    → DerivesByRule memory Post result (typing_rule context expression)
    → (keys : ℕ → Option Key) → AnswersHaveKeys context.types Post keys (typing_rule context expression) →
    HasKey context.types result (typing context keys expression)
resolved-key context expression memory Post result follows keys reports =
    follows-key memory context.types Post result keys (typing_rule context expression) reports (typing_rule-respects context expression)
    follows
