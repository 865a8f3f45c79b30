use Rattle.json.specs.Value.{value_view}
use Rattle.shader_json_reader.proofs.AnswerLemmas.{of_variant, passed_on}
use Rattle.shader_json_expressions.specs.Operators.{IsLevelOf}
use Rattle.shader_json_expressions.proofs.VariantLemmas.{gradient}
use Rattle.shader_json_expressions.proofs.expression_parts.CodeSampleLevelRead.read.Goals as goal

pub returns-in_err-x-in-Gradient-Some-clause-accepts : goal.returns-in_err-x-in-Gradient-Some-clause-accepts
returns-in_err-x-in-Gradient-Some-clause-accepts c = λ x h.
    let v = rw c.in-Gradient-Some.is-1 at c.in_ok-name.ensures.reads in
    let u = of_variant (λ name payload. IsLevelOf name payload x.0) _ _ _ v h in
    passed_on _ _ c.from_residual-in_err-x-in-Gradient-Some.ensures.1
    (gradient _ (value_view c.in-Gradient-Some.payload.value.now) (λ x y u. c.in_err-x-in-Gradient-Some.ensures.accepts (x, y) u.1)
    c.in-Gradient-Some.is-Gradient-0 x.0 u)
