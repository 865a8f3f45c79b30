-- A type resolved over stored types is the outcome of the rule at them.
use Rattle.std.proofs.Common.{◌≡◌, refl, sym, subst, ◌∙◌, ap, inl, inr, ◌<◌, ℕ, List, Some, Result, Ok, Err}
use Rattle.std.proofs.Common.{All, IsOkAnd, slice_get, length, option_map}
use Rattle.std.proofs.lemmas.Option.{get_or_from_slice_get, slice_get_within}
use Rattle.shader_ir.specs.declared.expression.Expression.{Expression}
use Rattle.shader_ir.specs.declared.proc.type_resolution.TypeResolution.{TypeResolution}
use Rattle.shader_ir.specs.Key.{FitsTypes, HoldsNoMembers}
use Rattle.shader_resolve.proofs.GivenLemmas.{GivesNoMembers, KeepsNoMembers, answer-in_range, fits-no_members, no_members_kept}
use Rattle.shader_resolve.proofs.QueriedLemmas.{queried, each-queried}
use Rattle.shader_resolve.specs.declared.error.ResolveError.{ResolveError}
use Rattle.shader_resolve.specs.Context.{Context}
use Rattle.shader_resolve.specs.DerivesByRule.{OperandAnswer, DerivesByRule, EachQueried, AnswerFits, AnswerInRange, memory_of}
use Rattle.shader_resolve.specs.Outcome.{Given, Meets, MeetsWithoutCopy, Memory, Outcome, Refused}
use Rattle.shader_resolve.specs.Stored.{IsOutcomeOf, outcome_at}
use Rattle.shader_resolve.specs.TypingRules.{TypingRule, Plain, One, Two, typing_rule}
use Rattle.shader_resolve.specs.WellFormed.{OperandsBelow}

-- a result that meets an outcome without members meets it without a copy
pub without_copy : (memory : Memory) (result : Result TypeResolution ResolveError) (outcome : Outcome) → GivesNoMembers outcome →
    Meets memory result outcome → MeetsWithoutCopy memory result outcome
without_copy memory (Ok resolution) (Given given) none meets = meets
without_copy memory (Ok resolution) (Refused refusal) none meets = meets
without_copy memory (Err failure) (Given given) none (inl for_rule) = for_rule
without_copy memory (Err failure) (Given given) none (inr for_copy) = absurd (for_copy.0 none)
without_copy memory (Err failure) (Refused refusal) none meets = meets

module _ (stored : List TypeResolution) (memory : Memory) where
  module _ (Post : ℕ → OperandAnswer → Type 0) (result : Result TypeResolution ResolveError)
      (no_members : (operand : ℕ) (t : TypeResolution) → slice_get stored operand ≡ Some t → HoldsNoMembers t)
      (determines : (operand : ℕ) (reported : OperandAnswer) → Post operand reported →
      IsOkAnd reported (λ t. slice_get stored operand ≡ Some t.now)) where
    derivation_gives : (queries : TypingRule) → KeepsNoMembers queries → DerivesByRule memory Post result queries →
        IsOutcomeOf stored memory queries result
    derivation_gives (Plain outcome) keeps meets = (outcome, refl, without_copy memory result outcome keeps meets)
    derivation_gives (One operand answer) keeps (Ok t, post, meets) =
        let at = determines operand (Ok t) post in (
          answer t.now,
          ap (λ v. option_map answer v) at,
          without_copy memory result (answer t.now) (keeps t.now (no_members operand t.now at)) meets,
        )
    derivation_gives (One operand answer) keeps (Err failure, post, rest) = absurd (determines operand (Err failure) post)
    derivation_gives (Two left right answer) keeps (Ok t, post, (Ok u, last, meets)) =
        let at = determines left (Ok t) post in
        let then = determines right (Ok u) last in
        let none = keeps t.now u.now (no_members left t.now at) (no_members right u.now then) in
        (answer t.now u.now, rw at (rw then refl), without_copy memory result (answer t.now u.now) none meets)
    derivation_gives (Two left right answer) keeps (Ok t, post, (Err failure, last, rest)) =
        absurd (determines right (Err failure) last)
    derivation_gives (Two left right answer) keeps (Err failure, post, rest) = absurd (determines left (Err failure) post)

module _ (context : Context) (x : Expression) (stored : List TypeResolution) (below : OperandsBelow (length stored) x) where
  -- the queried operands may be queried, and their types fit
  pub may_query : (Pre : ℕ → Type 0) → ((operand : ℕ) → operand < length stored → Pre operand) → EachQueried Pre (typing_rule context x)
  may_query Pre may = each-queried (λ operand. operand < length stored) Pre may (typing_rule context x)
      (queried context x (length stored) below)

  stored_fits : All (FitsTypes context.types) stored → (operand : ℕ) (reported : OperandAnswer) →
      IsOkAnd reported (λ t. slice_get stored operand ≡ Some t.now) → AnswerFits context.types reported
  stored_fits fit operand (Ok t) is = subst (FitsTypes context.types) (get_or_from_slice_get stored operand t.now t.now is)
      (fit operand t.now (slice_get_within stored operand t.now is))
  stored_fits fit operand (Err failure) is = absurd is

  module _ (fit : All (FitsTypes context.types) stored) (Post : ℕ → OperandAnswer → Type 0)
      (determines : (operand : ℕ) (reported : OperandAnswer) → Post operand reported →
      IsOkAnd reported (λ t. slice_get stored operand ≡ Some t.now)) where
    pub reported_fits : EachQueried (λ operand. (reported : OperandAnswer) → Post operand reported → AnswerFits context.types reported)
        (typing_rule context x)
    reported_fits = may_query (λ operand. (reported : OperandAnswer) → Post operand reported → AnswerFits context.types reported)
        (λ operand lt reported post. stored_fits fit operand reported (determines operand reported post))

    pub reported_in_range : EachQueried (λ operand. (reported : OperandAnswer) → Post operand reported →
        AnswerInRange context.types reported) (typing_rule context x)
    reported_in_range = may_query (λ operand. (reported : OperandAnswer) → Post operand reported → AnswerInRange context.types reported)
        (λ operand lt reported post. answer-in_range context.types reported
        (stored_fits fit operand reported (determines operand reported post)))

  -- the result is the outcome at the stored types, none of which is a struct outside the arena
  pub outcome_of : All (FitsTypes context.types) stored → (Post : ℕ → OperandAnswer → Type 0)
      (result : Result TypeResolution ResolveError) →
      DerivesByRule (memory_of x) Post result (typing_rule context x) →
      ((operand : ℕ) (reported : OperandAnswer) → Post operand reported →
      IsOkAnd reported (λ t. slice_get stored operand ≡ Some t.now)) →
      IsOutcomeOf stored (memory_of x) (typing_rule context x) result
  outcome_of fit Post result derives determines =
      derivation_gives stored (memory_of x) Post result
      (λ operand t at. fits-no_members context.types t (subst (FitsTypes context.types) (get_or_from_slice_get stored operand t t at)
      (fit operand t (slice_get_within stored operand t at))))
      determines (typing_rule context x) (no_members_kept context x) derives

-- a type that meets the outcome at stored types is that outcome
pub given_at : (stored : List TypeResolution) (memory : Memory) (rule : TypingRule) (resolution : TypeResolution) →
    IsOutcomeOf stored memory rule (Ok resolution) → outcome_at stored rule ≡ Some (Given resolution)
given_at stored memory rule resolution (Given given, at, same) = at ∙ ap (λ r. Some (Given r)) (sym same)
given_at stored memory rule resolution (Refused refusal, at, meets) = absurd meets
