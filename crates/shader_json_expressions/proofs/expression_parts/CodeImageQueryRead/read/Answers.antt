use Rattle.json.specs.Value.{value_view}
use Rattle.shader_json_reader.proofs.AnswerLemmas.{of_members, of_variant, passed_on}
use Rattle.shader_json_expressions.specs.Operators.{IsQueryOf}
use Rattle.shader_json_expressions.proofs.VariantLemmas.{query_size}
use Rattle.shader_json_expressions.proofs.expression_parts.CodeImageQueryRead.read.Goals as goal

pub returns-in_err-optional-in-Size-Some-clause-accepts : goal.returns-in_err-optional-in-Size-Some-clause-accepts
returns-in_err-optional-in-Size-Some-clause-accepts c = λ x h.
    let v = rw c.in-Size-Some.is-1 at c.in_ok-name.ensures.reads in
    let u = of_variant (λ name payload. IsQueryOf name payload x.0) _ _ _ v h in
    passed_on _ _ c.from_residual-in_err-optional-in-Size-Some.ensures.1
    (query_size _ (value_view c.in-Size-Some.payload.value.now)
    (λ level u. c.in_err-optional-in-Size-Some.ensures.accepts level (of_members _ _ _ c.in_ok-fields-in-Size-Some.ensures.reads u.1))
    c.in-Size-Some.is-Size-0 x.0 u)
