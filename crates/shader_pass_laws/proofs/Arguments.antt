-- An argument that a typed expression names exists.
use Rattle.std.proofs.Common.{◌≡◌, refl, sym, subst, ◌∙◌, ℕ, ◌<◌, Option, Some, None, slice_get, length, get_or, arith}
use Rattle.std.proofs.lemmas.Option.{same_Some, slice_get-get_or, slice_get_within}
use Rattle.shader_ir.specs.declared.expression.Expression.TheVariants as form
use Rattle.shader_ir.specs.declared.function.FunctionArgument.{FunctionArgument}
use Rattle.shader_ir.specs.declared.proc.type_resolution.TypeResolution.{TypeResolution}
use Rattle.shader_ir.specs.declared.proc.type_resolution.TypeResolution.TheVariants.{Handle}
use Rattle.shader_resolve.specs.Outcome.{Outcome, Given}
use Rattle.shader_resolve.specs.TypingRules.{TypingRule, Plain, One, Two, argument_type, typing_rule}
use Rattle.shader_analysis_spec.specs.Derivable.{Answers, plain, by_one, by_two, given, function_context}
use Rattle.shader_analysis_spec.specs.Program.{Function, Module, Expression, IsExpressionAt}
use Rattle.shader_pass_laws.specs.PairsFit.{TypedArgumentsAreWithin, TypedFunctionsHaveArguments}

module _ (m : Module) (f : Function) (i : ℕ) where
  abbrev Queried : Expression → TypingRule
  Queried x = typing_rule (function_context m f) x

  given_there : (o : Option FunctionArgument) (t : TypeResolution) → slice_get f.arguments i ≡ o → argument_type i o ≡ Given t →
      i < length f.arguments
  given_there None t is h = absurd (cc)
  given_there (Some argument) t is h = slice_get_within f.arguments i argument is

  rule_is : (e : ℕ) (x : Expression) (r : TypingRule) → IsExpressionAt f e (form.FunctionArgument i) → slice_get f.expressions e ≡ Some x →
      Queried x ≡ r →
      Plain (argument_type i (slice_get f.arguments i)) ≡ r
  rule_is e x r is_there is queried =
      let same : x ≡ form.FunctionArgument i = same_Some x (form.FunctionArgument i) (sym is ∙ is_there) in
      let P : Expression → Type 0 = λ v. Queried v ≡ r in subst P same queried

  answered : (e : ℕ) (outcome : Outcome) → IsExpressionAt f e (form.FunctionArgument i) →
      Answers (function_context m f) f.expressions e outcome →
      (t : TypeResolution) → outcome ≡ Given t → i < length f.arguments
  answered e outcome is_there (plain {x = x} is r) t h =
      let rows = rule_is e x (Plain outcome) is_there is r in
      let same : argument_type i (slice_get f.arguments i) ≡ outcome = cc in
      given_there (slice_get f.arguments i) t refl (same ∙ h)
  answered e _ is_there (by_one {operand = o} {x = x} {answer = answer} is r reported) t h =
      let rows = rule_is e x (One o answer) is_there is r in absurd (cc)
  answered e _ is_there (by_two {left = left} {right = right} {x = x} {answer = answer} is r first second) t h =
      let rows = rule_is e x (Two left right answer) is_there is r in absurd (cc)

pub typed_arguments_are_within : TypedArgumentsAreWithin
typed_arguments_are_within m f e i resolution is_there (given {outcome = outcome} answers is) =
    answered m f i e outcome is_there answers resolution is

pub typed_functions_have_arguments : TypedFunctionsHaveArguments
typed_functions_have_arguments m f types are e i is_there =
    let lt : e < length types = omega (arith, slice_get_within f.expressions e (form.FunctionArgument i) is_there, are.complete) in
    let resolution = get_or types e (Handle 0) in
    typed_arguments_are_within m f e i resolution is_there (are.derived e resolution (slice_get-get_or types e (Handle 0) lt))
