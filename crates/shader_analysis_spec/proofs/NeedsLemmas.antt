-- The step equations of needs give the interprocedural needs.
use Rattle.std.proofs.Common.{ℕ, ◌↔◌, IsTrue, List, sym, ◌∙◌, subst, arith}
use Rattle.std.proofs.lemmas.Bool.Decides.{nat_tests}
use Rattle.std.specs.List.{slice_index}
use Rattle.std.specs.Int.{IsBitSet}
use Rattle.std.proofs.lemmas.Option.{same_Some}
use Rattle.shader_analysis_spec.specs.Program.{Function, Module}
use Rattle.shader_analysis_spec.specs.Calls.{here, via, CallsTo}
use Rattle.shader_analysis_spec.specs.Infos.{Info, EachNamed, by_result}
use Rattle.shader_analysis_spec.specs.Needs.{Need, bit_of_need, has_need, Needs, ExpressionNeeds}
use Rattle.shader_analysis_spec.specs.Needs.{by_statement, by_expression, by_form, by_callee}
use Rattle.shader_analysis_spec.specs.Steps.{StepExpressionNeed, StepNeed, own, callee, statement, expression}
use Rattle.shader_analysis_spec.proofs.JoinLemmas.{bit_to, of_bit}
use Rattle.shader_analysis_spec.proofs.Order.{info_of_call, call_of_info}

-- a number has a need exactly if its bit of the need is set
pub bit_of : (number : ℕ) (n : Need) → IsTrue (has_need number n) ↔ IsBitSet number (bit_of_need n)
bit_of number n = (
  λ is. of_bit number (bit_of_need n) (grind (arith, nat_tests, is)),
  λ set. let one = bit_to number (bit_of_need n) set in grind (arith, nat_tests, one),
)

abbrev pub HasNeeds : Module → Function → Info → Type 0
HasNeeds m f info = (n : Need) → IsBitSet info.needs (bit_of_need n) ↔ Needs m n f

module _ (m : Module) (infos : List Info) (f : Function) (named : EachNamed (HasNeeds m) m infos f) (n : Need) where
  pub of_step : (e : ℕ) → StepExpressionNeed infos f n e → ExpressionNeeds m n f e
  of_step e (own s required) = by_form s required
  of_step e (callee {c = c} {info = info} s stored is) =
      let (d, info', is_d, is_info, has) = named c (by_result e s) in
      by_callee s is_d ((has n).0 (subst (λ i. IsBitSet i.needs (bit_of_need n)) (same_Some info info' (sym stored ∙ is_info)) is))

  pub to_step : (e : ℕ) → ExpressionNeeds m n f e → StepExpressionNeed infos f n e
  to_step e (by_form s required) = own s required
  to_step e (by_callee {d = d} {c = c} s is_d needs) =
      let (d', info, is_d', is_info, has) = named c (by_result e s) in
      callee s is_info ((has n).1 (subst (Needs m n) (same_Some d d' (sym is_d ∙ is_d')) needs))

  further : (d : Function) → CallsTo m f d → Needs m n d → Needs m n f
  further d call (by_statement path holds required) = by_statement (via call path) holds required
  further d call (by_expression e path emitted needs) = by_expression e (via call path) emitted needs

  of_whole : StepNeed infos f n → Needs m n f
  of_whole (statement holds required) = by_statement here holds required
  of_whole (expression e emitted needs) = by_expression e here emitted (of_step e needs)
  of_whole (callee stored is) =
      let (d, call, _, has) = call_of_info (HasNeeds m) m infos f named stored in further d call ((has n).0 is)

  to_whole : Needs m n f → StepNeed infos f n
  to_whole (by_statement here holds required) = statement holds required
  to_whole (by_statement (via {c = d} call path) holds required) =
      let (info, stored, has) = info_of_call (HasNeeds m) m infos f named d call in
      callee stored ((has n).1 (by_statement path holds required))
  to_whole (by_expression e here emitted needs) = expression e emitted (to_step e needs)
  to_whole (by_expression e (via {c = d} call path) emitted needs) =
      let (info, stored, has) = info_of_call (HasNeeds m) m infos f named d call in
      callee stored ((has n).1 (by_expression e path emitted needs))

  pub exact_expression : (info : Info) (e : ℕ) → IsBitSet (slice_index info.expression_needs e) (bit_of_need n)
      ↔ StepExpressionNeed infos f n e →
      IsBitSet (slice_index info.expression_needs e) (bit_of_need n) ↔ ExpressionNeeds m n f e
  exact_expression info e step = (λ h. of_step e (step.0 h), λ h. step.1 (to_step e h))

  pub exact_needs : (info : Info) → IsBitSet info.needs (bit_of_need n) ↔ StepNeed infos f n →
      IsBitSet info.needs (bit_of_need n) ↔ Needs m n f
  exact_needs info step = (λ h. of_whole (step.0 h), λ h. step.1 (to_whole h))
