-- The computed needs of an expression, as a number.
use Rattle.std.proofs.Common.{◌≡◌, ◌≢◌, refl, ap, subst, ◌∙◌, ℕ, zero, suc, ◌<◌, ◌≤◌, ◌↔◌, ◌⊎◌, inl, inr}
use Rattle.std.proofs.Common.{Bool, true, false, not, IsTrue, List, [], Option, Some, None, map, nat_eq}
use Rattle.std.proofs.Common.{nat_lt, slice_get, slice_index, length, get_or, unwrap_or, bit_and, arith}
use borrow.Author.Tests.{ltb-true, ltb-false}
use Rattle.std.specs.Int.{IsBitSet, bit_at}
use Rattle.std.specs.Option.{option_map}
use Rattle.std.proofs.lemmas.Bool.{cases_eq}
use Rattle.std.proofs.lemmas.Bool.Decides.{nat_tests}
use Rattle.std.proofs.lemmas.Nat.{and_le_r}
use Rattle.std.proofs.lemmas.Option.{get_or_from_slice_get, slice_get-get_or, slice_get-map, slice_get_past, slice_get_within}
use Rattle.shader_ir.specs.declared.expression.Expression.TheVariants as form
use Rattle.shader_ir.specs.declared.expression.SampleLevel.{SampleLevel}
use Rattle.shader_ir.specs.declared.expression.SampleLevel.TheVariants as level
use Rattle.shader_analysis_spec.specs.Needs.{Need, WorkGroupBarrier, Derivative, ImplicitLevel, CooperativeOperation, bit_of_need}
use Rattle.shader_analysis_spec.specs.Program.{Function, Module, Expression, IsExpressionAt}
use Rattle.shader_analysis_spec.specs.Steps.{StepExpressionNeed, own, callee}
use Rattle.shader_analysis_spec.proofs.BitsLemmas.{numbers_are_sets}
use Rattle.shader_analysis_spec.proofs.JoinLemmas.{no_bit, bit_to, of_bit}
use Rattle.shader_info.specs.declared.info.FunctionInfo.{FunctionInfo}
use Rattle.shader_passes.specs.Results.{computed_expression_needs, computed_facts}
use Rattle.shader_pass_laws.proofs.ResultLemmas.{expression_needs_of_the_step}
use Rattle.shader_passes.specs.Facts.{Fact}
use Rattle.shader_passes.specs.Ends.{requires_uniform_flow}
use Rattle.shader_passes.specs.Facts.{callee_of, called_needs, entry, form_needs, level_needs, needs_at, own_needs, result_needs}
use Rattle.shader_passes.specs.InfoOf.{infos_of}
use Rattle.shader_passes.proofs.FactLemmas.{get_seam, is_there_between, facts_after_long}

-- a number other than zero has a bit
no_need : (n : ℕ) → n < 16 → (IsBitSet n 0 → ⊥) → (IsBitSet n 1 → ⊥) → (IsBitSet n 2 → ⊥) → (IsBitSet n 3 → ⊥) → n ≡ 0
no_need n small no_barrier no_derivative no_level no_operation = numbers_are_sets.1 4 n 0 small (omega arith) same where
  same : (k : ℕ) → k < 4 → IsBitSet n k ↔ IsBitSet 0 k
  same zero lt = (λ h. absurd (no_barrier h), λ h. absurd (no_bit 0 h))
  same (suc zero) lt = (λ h. absurd (no_derivative h), λ h. absurd (no_bit 1 h))
  same (suc (suc zero)) lt = (λ h. absurd (no_level h), λ h. absurd (no_bit 2 h))
  same (suc (suc (suc zero))) lt = (λ h. absurd (no_operation h), λ h. absurd (no_bit 3 h))
  same (suc (suc (suc (suc k)))) lt = absurd (omega (arith, lt))

bit_or_none : (n k : ℕ) → IsBitSet n k ⊎ (IsBitSet n k → ⊥)
bit_or_none n k = elim (cases_eq (bit_at n k) 1) [
  | inl is ↦ inl (of_bit n k is)
  | inr other ↦ inr (λ h. other (bit_to n k h))
]

requiring_number : (n : ℕ) → IsTrue (not (nat_eq n 0)) → n ≢ 0
requiring_number n h e = let P : ℕ → Type 0 = λ v. IsTrue (not (nat_eq v 0)) in let never : IsTrue false = subst P e h in absurd (cc)

pub number_requiring : (n k : ℕ) → IsBitSet n k → IsTrue (not (nat_eq n 0))
number_requiring n k h = elim (cases_eq n 0) [
  | inl none ↦ let P : ℕ → Type 0 = λ v. IsBitSet v k in absurd (no_bit k (subst P none h))
  | inr some ↦ grind (arith, nat_tests)
]

pub some_need : (n : ℕ) → n < 16 → IsTrue (not (nat_eq n 0)) → (need : Need) × IsBitSet n (bit_of_need need)
some_need n small requiring = elim (bit_or_none n 0) [
  | inl set ↦ (WorkGroupBarrier, set)
  | inr no_barrier ↦ elim (bit_or_none n 1) [
    | inl set ↦ (Derivative, set)
    | inr no_derivative ↦ elim (bit_or_none n 2) [
      | inl set ↦ (ImplicitLevel, set)
      | inr no_level ↦ elim (bit_or_none n 3) [
        | inl set ↦ (CooperativeOperation, set)
        | inr no_operation ↦ absurd (requiring_number n requiring (no_need n small no_barrier no_derivative no_level no_operation))
      ]
    ]
  ]
]

level_small : (l : SampleLevel) → level_needs l < 16
level_small level.Auto = omega arith
level_small (level.Bias b) = omega arith
level_small l = omega arith

form_small : (x : Expression) → form_needs x < 16
form_small (form.ImageSample i s g k c a o l d) = level_small l
form_small (form.Derivative a c e) = omega arith
form_small (form.CooperativeLoad a b r t) = omega arith
form_small (form.CooperativeMultiplyAdd a b c) = omega arith
form_small x = omega arith

pub result_small : (infos : List FunctionInfo) (c : ℕ) → result_needs infos c < 16
result_small infos c = at (slice_get infos c) where
  at : (o : Option FunctionInfo) → unwrap_or (option_map (λ (i : FunctionInfo). bit_and i.uniformity.requirements.0 15) o) 0 < 16
  at None = omega arith
  at (Some i) = omega (arith, and_le_r i.uniformity.requirements.0 15)

own_small : (infos : List FunctionInfo) (x : Expression) → own_needs infos x < 16
own_small infos x = at (callee_of x) where
  at : (o : Option ℕ) → called_needs infos o (form_needs x) < 16
  at (Some c) = result_small infos c
  at None = form_small x

abbrev rq : Fact → ℕ
rq fact = fact.requirements.0

module _ (m : Module) (infos : List FunctionInfo) (f : Function) where
  abbrev facts : List Fact
  facts = computed_facts m infos f

  facts_long : length facts ≡ length f.expressions
  facts_long = facts_after_long m infos f f.expressions

  is_there_at : (e : ℕ) → e < length f.expressions → (x : Expression) × IsExpressionAt f e x
  is_there_at e lt = (get_or f.expressions e form.RayQueryProceedResult, slice_get-get_or f.expressions e form.RayQueryProceedResult lt)

  needs_is : (e : ℕ) (x : Expression) → IsExpressionAt f e x → needs_at facts e ≡ own_needs infos x
  needs_is e x s =
      let b = is_there_between m infos f f.expressions e x s in
      let one = entry m infos f b.prior e x in
      ap (λ (v : Option Fact). unwrap_or (option_map rq v) 0) (ap (λ v. slice_get v e) b.is ∙ get_seam b.prior one b.later e b.long)

  none_past : (e : ℕ) → length f.expressions ≤ e → needs_at facts e ≡ 0
  none_past e le = ap (λ (v : Option Fact). unwrap_or (option_map rq v) 0) (slice_get_past facts e (omega (arith, facts_long, le)))

  pub needs_small : (e : ℕ) → needs_at facts e < 16
  needs_small e = at (nat_lt e (length f.expressions)) refl where
    at : (b : Bool) → nat_lt e (length f.expressions) ≡ b → needs_at facts e < 16
    at true h =
        let x = is_there_at e (omega (arith, ltb-true, h)) in
        omega (arith, needs_is e x.0 x.1, own_small infos x.0)
    at false h = omega (arith, none_past e (omega (arith, ltb-false, h)))

  pub requiring_within : (e : ℕ) → IsTrue (requires_uniform_flow facts e) → e < length f.expressions
  requiring_within e requiring = at (nat_lt e (length f.expressions)) refl where
    at : (b : Bool) → nat_lt e (length f.expressions) ≡ b → e < length f.expressions
    at true h = omega (arith, ltb-true, h)
    at false h = absurd (requiring_number (needs_at facts e) requiring (none_past e (omega (arith, ltb-false, h))))

  same_needs : (e : ℕ) → e < length f.expressions → slice_index (computed_expression_needs m infos f) e ≡ needs_at facts e
  same_needs e lt = at (slice_get facts e) refl where
    at : (o : Option Fact) → slice_get facts e ≡ o → slice_index (map rq facts) e ≡ unwrap_or (option_map rq o) 0
    at None is =
        let some = slice_get-get_or facts e (entry m infos f [] 0 form.RayQueryProceedResult) (omega (arith, facts_long, lt)) in absurd (cc)
    at (Some fact) is = get_or_from_slice_get (map rq facts) e (rq fact) 0 (slice_get-map rq facts e ∙ ap (option_map rq) is)

  pub needs_bits : (e : ℕ) (n : Need) → e < length f.expressions →
      IsBitSet (needs_at facts e) (bit_of_need n) ↔ StepExpressionNeed (infos_of infos) f n e
  needs_bits e n lt =
      let P : ℕ → Type 0 = λ v. IsBitSet v (bit_of_need n) ↔ StepExpressionNeed (infos_of infos) f n e in
      subst P (same_needs e lt) (expression_needs_of_the_step m infos f n e lt)

  pub need_within : (e : ℕ) (n : Need) → StepExpressionNeed (infos_of infos) f n e → e < length f.expressions
  need_within e n (own {x = x} is_there required) = slice_get_within f.expressions e x is_there
  need_within e n (callee is_there stored set) = slice_get_within f.expressions e _ is_there
