-- The outcome of type resolution is what the derivable types require.
use Rattle.std.proofs.Common.{◌≡◌, sym, subst, ◌⊎◌, inl, inr, ℕ, ◌<◌, List, Some, Result, Ok}
use Rattle.std.proofs.Common.{Err, IsOkAnd, slice_get, length, get_or, None, ◌≤◌, refl, All, arith}
use Rattle.std.proofs.lemmas.List.Elements.{All-contains}
use Rattle.std.proofs.lemmas.Option.{slice_get_cases}
use Rattle.shader_ir.specs.declared.proc.type_resolution.TypeResolution.{TypeResolution}
use Rattle.shader_analysis_spec.specs.Derivable.{Answers, plain, by_one, by_two, Derives, IsRefused, given}
use Rattle.shader_analysis_spec.specs.Program.{Expression, Label, expression_operands}
use Rattle.shader_expression_types.specs.Typed.{AreOfTheFirst, HasOutcome, IsResultOf}
use Rattle.shader_expression_types.proofs.ListLemmas.{at_position}
use Rattle.shader_ir.specs.Key.{FitsTypes, HoldsNoMembers}
use Rattle.shader_resolve.proofs.GivenLemmas.{GivesNoMembers, KeepsNoMembers, fits-no_members, no_members_kept}
use Rattle.shader_resolve.proofs.MemoryLemmas.{for_type}
use Rattle.shader_resolve.proofs.StoredLemmas.{without_copy}
use Rattle.shader_resolve.specs.declared.error.ResolveError.{ResolveError}
use Rattle.shader_resolve.specs.Context.{Context}
use Rattle.shader_resolve.specs.DerivesByRule.{OperandAnswer, DerivesByRule, Answered}
use Rattle.shader_resolve.specs.Outcome.{Given, IsOutOfMemory, Meets, Memory, Outcome, Refused, refusal_of}
use Rattle.shader_resolve.specs.TypingRules.{TypingRule, Plain, One, Two, typing_rule}
use Rattle.shader_resolve.specs.WellFormed.{OperandsBelow}

module _ (context : Context) (expressions : List Expression) (types : List TypeResolution)
    (first : AreOfTheFirst context expressions types) where
  -- an earlier expression has a type
  pub typed : (e : ℕ) → e < length types → (resolution : TypeResolution) × (slice_get types e ≡ Some resolution) ×
      Derives context expressions e resolution
  typed e lt = at (slice_get_cases types e).1 where
    at : ((t : TypeResolution) × (e < length types) × (slice_get types e ≡ Some t) × (get_or types e t ≡ t)) ⊎ ((length types ≤ e) ×
        (slice_get types e ≡ None)) →
        (resolution : TypeResolution) × (slice_get types e ≡ Some resolution) × Derives context expressions e resolution
    at (inl found) = (found.0, found.2, first e found.0 found.2)
    at (inr past) = absurd (omega (arith, past.0))

  module _ (e : ℕ) (x : Expression) (is : slice_get expressions e ≡ Some x) (below : OperandsBelow (length types) x) (memory : Memory) where
    -- the outcome of the typing rule is the expression's
    has_outcome : (outcome : Outcome) → Answers context expressions e outcome → HasOutcome context expressions e outcome
    has_outcome (Given resolution) answers = given answers refl
    has_outcome (Refused refusal) answers = record {
      expression = x;
      is_there = is;
      operands = λ operand among.
          let there = typed operand.0 (All-contains (λ (o : ℕ × Label). o.0 < length types) (expression_operands x) operand
          below among) in
          (there.0, there.2);
      refused = answers;
    }

    -- a result that meets the typing rule's outcome is the outcome for the expression
    concluded : (result : Result TypeResolution ResolveError) (outcome : Outcome) → GivesNoMembers outcome →
        Answers context expressions e outcome → Meets memory result outcome →
        IsResultOf context expressions e memory result
    concluded result outcome none answers meets = (outcome, has_outcome outcome answers, without_copy memory result outcome none meets)

    module _ (fit : All (FitsTypes context.types) types)
        (Post : ℕ → OperandAnswer → Type 0) (determines : (operand : ℕ) (reported : OperandAnswer) → Post operand reported →
        IsOkAnd reported (λ t. slice_get types operand ≡ Some t.now))
        (result : Result TypeResolution ResolveError) where
      answered : (operand : ℕ) (Rest : TypeResolution → Type 0) → Answered Post result operand Rest →
          (t : TypeResolution) × Derives context expressions operand t × Rest t × HoldsNoMembers t
      answered operand Rest (Ok t, post, rest) =
          let at = determines operand (Ok t) post in (
            t.now,
            first operand t.now at,
            rest,
            fits-no_members context.types t.now
                (at_position (FitsTypes context.types) types operand t.now fit at),
          )
      answered operand Rest (Err failure, post, rest) = absurd (determines operand (Err failure) post)

      by_rule : (queried : TypingRule) → typing_rule context x ≡ queried → KeepsNoMembers queried →
          DerivesByRule memory Post result queried →
          IsResultOf context expressions e memory result
      by_rule (Plain outcome) same keeps follows = concluded result outcome keeps (plain is same) follows
      by_rule (One operand answer) same keeps follows =
          let t = answered operand (λ reported. Meets memory result (answer reported)) follows in
          concluded result (answer t.0) (keeps t.0 t.3) (by_one is same t.1) t.2
      by_rule (Two l r answer) same keeps follows =
          let t = answered l (λ reported. Answered Post result r (λ second. Meets memory result (answer reported second))) follows in
          let u = answered r (λ second. Meets memory result (answer t.0 second)) t.2 in
          concluded result (answer t.0 u.0) (keeps t.0 u.0 t.3 u.3) (by_two is same t.1 u.1) u.2

      pub is_reported : DerivesByRule memory Post result (typing_rule context x) → IsResultOf context expressions e memory result
      is_reported follows = by_rule (typing_rule context x) refl (no_members_kept context x) follows

module _ (context : Context) (expressions : List Expression) (e : ℕ) (memory : Memory) where
  -- a type that is the result is the expression's
  pub derives_result : (resolution : TypeResolution) → IsResultOf context expressions e memory (Ok resolution) →
      Derives context expressions e resolution
  derives_result resolution (Given found, derives, same) = subst (Derives context expressions e) (sym same) derives
  derives_result resolution (Refused refusal, refused, meets) = absurd meets

  -- an error that is the result is the expression's refusal, or out of memory
  pub refused_or_out : (failure : ResolveError) → IsResultOf context expressions e memory (Err failure) →
      IsRefused context expressions e (refusal_of failure) ⊎ IsOutOfMemory memory failure
  refused_or_out failure (Given found, derives, out_of_memory) = inr (for_type memory failure out_of_memory)
  refused_or_out failure (Refused refusal, refused, (inl same)) = inl (subst (IsRefused context expressions e) (sym same) refused)
  refused_or_out failure (Refused refusal, refused, (inr out_of_memory)) = inr out_of_memory
