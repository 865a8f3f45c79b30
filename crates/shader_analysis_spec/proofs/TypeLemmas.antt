-- An expression has at most one type, and the filters from a leaf outwards give exactly one severity.
use Rattle.std.proofs.Common.{◌≡◌, refl, sym, ap, subst, ◌∙◌, ℕ, List, Option, Some, slice_get}
use Rattle.std.proofs.lemmas.Option.{same_Some}
use Rattle.shader_ir.specs.declared.module.DiagnosticFilterNode.{DiagnosticFilterNode}
use Rattle.shader_ir.specs.declared.module.DiagnosticRule.TheVariants as rule
use Rattle.shader_ir.specs.declared.proc.type_resolution.TypeResolution.{TypeResolution}
use Rattle.shader_ir.specs.Key.{Key, key_of}
use Rattle.shader_resolve.proofs.RuleLemmas.{Respects, typing_rule-respects}
use Rattle.shader_resolve.proofs.TypingLemmas.{key_of-resolution_of_key}
use Rattle.shader_resolve.specs.Typing.{at_key, outcome_key, rule_key, resolution_of_key}
use Rattle.shader_resolve.specs.Context.{Context}
use Rattle.shader_resolve.specs.Outcome.{Outcome, Given, Refused}
use Rattle.shader_resolve.specs.TypingRules.{TypingRule, Plain, One, Two, typing_rule}
use Rattle.shader_analysis_spec.specs.Program.{Expression}
use Rattle.shader_analysis_spec.specs.Derivable.{Answers, plain, by_one, by_two, Derives, given}
use Rattle.shader_analysis_spec.specs.FaultLaws.{DerivedTypesHaveKeys, TypesAreUnique, SeveritiesAreUnique}
use Rattle.shader_analysis_spec.specs.Filters.{Governs, unfiltered, by_filter, by_parent}

-- the operands that a typing rule queries first and last, and its outcome
abbrev first_queried : TypingRule → ℕ
first_queried (Plain outcome) = 0
first_queried (One operand answer) = operand
first_queried (Two left right answer) = left

abbrev last_queried : TypingRule → ℕ
last_queried (Plain outcome) = 0
last_queried (One operand answer) = operand
last_queried (Two left right answer) = right

abbrev answered : TypingRule → TypeResolution → TypeResolution → Outcome
answered (Plain outcome) first second = outcome
answered (One operand answer) first second = answer first
answered (Two left right answer) first second = answer first second

abbrev type_or : TypeResolution → Outcome → TypeResolution
type_or other (Given resolution) = resolution
type_or other (Refused refusal) = other

module _ (context : Context) (expressions : List Expression) where
  same_rule : (e : ℕ) (x y : Expression) (r s : TypingRule) → slice_get expressions e ≡ Some x → slice_get expressions e ≡ Some y →
      typing_rule context x ≡ r → typing_rule context y ≡ s → r ≡ s
  same_rule e x y r s is_x is_y is_r is_s = sym is_r ∙ (ap (typing_rule context) (same_Some x y (sym is_x ∙ is_y)) ∙ is_s)

  mutual
    one_answer : (e : ℕ) (outcome other : Outcome) → Answers context expressions e outcome → Answers context expressions e other →
        outcome ≡ other
    one_answer e _ _ (plain {x = x} is r) (plain {x = y} is' r') = let rows = same_rule e x y _ _ is is' r r' in cc
    one_answer e _ _ (plain {x = x} is r) (by_one {x = y} is' r' reported') = let rows = same_rule e x y _ _ is is' r r' in absurd (cc)
    one_answer e _ _ (plain {x = x} is r) (by_two {x = y} is' r' first' second') = let rows = same_rule e x y _ _ is is' r r' in absurd (cc)
    one_answer e _ _ (by_one {x = x} is r reported) (plain {x = y} is' r') = let rows = same_rule e x y _ _ is is' r r' in absurd (cc)
    one_answer e _ _ (by_one {operand = o} {x = x} {answer = f} {reported = t} is r reported)
        (by_one {operand = p} {x = y} {answer = g} {reported = u} is' r' reported') =
        let rows = same_rule e x y (One o f) (One p g) is is' r r' in
        let operands : o ≡ p = ap first_queried rows in
        let types : t ≡ u = one_type p t u (subst (λ v. Derives context expressions v t) operands reported) reported' in
        ap (λ v. answered v t t) rows ∙ ap g types
    one_answer e _ _ (by_one {x = x} is r reported) (by_two {x = y} is' r' first' second') = let rows =
        same_rule e x y _ _ is is' r r' in absurd (cc)
    one_answer e _ _ (by_two {x = x} is r first second) (plain {x = y} is' r') = let rows = same_rule e x y _ _ is is' r r' in absurd (cc)
    one_answer e _ _ (by_two {x = x} is r first second) (by_one {x = y} is' r' reported') = let rows =
        same_rule e x y _ _ is is' r r' in absurd (cc)
    one_answer e _ _ (by_two {left = l} {right = k} {x = x} {answer = f} {first = a} {second = b} is r first second)
        (by_two {left = l'} {right = k'} {x = y} {answer = g} {first = a'} {second = b'} is' r' first' second') =
        let rows = same_rule e x y (Two l k f) (Two l' k' g) is is' r r' in
        let lefts : l ≡ l' = ap first_queried rows in
        let rights : k ≡ k' = ap last_queried rows in
        let firsts : a ≡ a' = one_type l' a a' (subst (λ v. Derives context expressions v a) lefts first) first' in
        let seconds : b ≡ b' = one_type k' b b' (subst (λ v. Derives context expressions v b) rights second) second' in
        ap (λ v. answered v a b) rows ∙ (ap (λ v. g v b) firsts ∙ ap (g a') seconds)

    one_type : (e : ℕ) (resolution other : TypeResolution) → Derives context expressions e resolution →
        Derives context expressions e other → resolution ≡ other
    one_type e resolution other (given {outcome = o} answers is) (given {outcome = p} answers' is') =
        ap (type_or resolution) (sym is ∙ (one_answer e o p answers answers' ∙ is'))

pub types_are_unique : TypesAreUnique
types_are_unique context expressions e resolution (given {outcome = o} answers is) = (
  λ other derives. one_type context expressions e resolution other (given answers is) derives,
  λ refusal refused. let same = one_answer context expressions e o (Refused refusal) answers refused.refused in absurd (cc),
)

module _ (context : Context) (expressions : List Expression) (keys : ℕ → Option Key)
    (reported_keys : (e : ℕ) (resolution : TypeResolution) → Derives context expressions e resolution →
    keys e ≡ Some (key_of context.types resolution)) where
  rule_at : (e : ℕ) (x y : Expression) (r : TypingRule) → slice_get expressions e ≡ Some x → slice_get expressions e ≡ Some y →
      typing_rule context y ≡ r →
      typing_rule context x ≡ r
  rule_at e x y r is_x is_y is_r = ap (typing_rule context) (same_Some x y (sym is_x ∙ is_y)) ∙ is_r

  answer_key : (e : ℕ) (x : Expression) (o : Outcome) → slice_get expressions e ≡ Some x → Answers context expressions e o →
      rule_key context.types keys (typing_rule context x) ≡ outcome_key context.types o
  answer_key e x _ is (plain {x = y} {outcome = o} is' r) = ap (rule_key context.types keys) (rule_at e x y (Plain o) is is' r)
  answer_key e x _ is (by_one {operand = p} {x = y} {answer = f} {reported = t} is' r derives) =
      let respects : Respects context.types (One p f) = subst (Respects context.types) r (typing_rule-respects context y) in
      ap (rule_key context.types keys) (rule_at e x y (One p f) is is' r)
      ∙ (ap (λ k. at_key k (λ u. outcome_key context.types (f u))) (reported_keys p t derives)
      ∙ respects (resolution_of_key (key_of context.types t)) t (key_of-resolution_of_key context.types t))
  answer_key e x _ is (by_two {left = l} {right = p} {x = y} {answer = f} {first = t} {second = u} is' r first second) =
      let respects : Respects context.types (Two l p f) = subst (Respects context.types) r (typing_rule-respects context y) in
      ap (rule_key context.types keys) (rule_at e x y (Two l p f) is is' r)
      ∙ (ap (λ k. at_key k (λ v. at_key (keys p) (λ w. outcome_key context.types (f v w)))) (reported_keys l t first)
      ∙ (ap (λ k. at_key k (λ w. outcome_key context.types (f (resolution_of_key (key_of context.types t)) w))) (reported_keys p u second)
      ∙ respects (resolution_of_key (key_of context.types t)) t (resolution_of_key (key_of context.types u)) u
      (key_of-resolution_of_key context.types t)
      (key_of-resolution_of_key context.types u)))

pub derived_types_have_keys : DerivedTypesHaveKeys
derived_types_have_keys context expressions keys reported_keys e x resolution is (given {outcome = o} answers reported) =
    answer_key context expressions keys reported_keys e x o is answers ∙ ap (outcome_key context.types) reported

pub severities_are_unique : SeveritiesAreUnique
severities_are_unique filters _ _ _ unfiltered unfiltered = refl
severities_are_unique filters _ _ _ (by_filter {filter = a} is r) (by_filter {filter = b} is' r') =
    ap (λ (v : DiagnosticFilterNode). v.severity) (same_Some a b (sym is ∙ is'))
severities_are_unique filters _ _ _ (by_filter {filter = a} is r) (by_parent {filter = b} is' r' rest) =
    let same : a ≡ b = same_Some a b (sym is ∙ is') in
    let rules : rule.DerivativeUniformity ≡ rule.Other = sym r ∙ (ap (λ (v : DiagnosticFilterNode). v.rule) same ∙ r') in absurd (cc)
severities_are_unique filters _ _ _ (by_parent {filter = a} is r rest) (by_filter {filter = b} is' r') =
    let same : a ≡ b = same_Some a b (sym is ∙ is') in
    let rules : rule.Other ≡ rule.DerivativeUniformity = sym r ∙ (ap (λ (v : DiagnosticFilterNode). v.rule) same ∙ r') in absurd (cc)
severities_are_unique filters _ grave other (by_parent {filter = a} is r rest) (by_parent {filter = b} is' r' rest') =
    let same : a ≡ b = same_Some a b (sym is ∙ is') in
    severities_are_unique filters b.parent grave other (subst (λ (v : DiagnosticFilterNode). Governs filters v.parent grave)
    same rest) rest'
