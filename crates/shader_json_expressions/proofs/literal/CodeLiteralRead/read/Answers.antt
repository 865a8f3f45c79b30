use Rattle.json.specs.Value.{value_view}
use Rattle.shader_json_reader.proofs.AnswerLemmas.{of_variant, passed_on}
use Rattle.shader_json_expressions.specs.Literals.{IsLiteralOf}
use Rattle.shader_json_expressions.proofs.VariantLemmas.{abstract_float, f32, f64}
use Rattle.shader_json_expressions.proofs.literal.CodeLiteralRead.read.Goals as goal

pub returns-in_err-read-in-F64-clause-accepts : goal.returns-in_err-read-in-F64-clause-accepts
returns-in_err-read-in-F64-clause-accepts c = λ x h.
    let v = rw c.in-Some.is at c.in_ok-name.ensures.reads in
    let u = of_variant (λ name payload. IsLiteralOf name payload x.0) _ _ _ v h in
    passed_on _ _ c.from_residual-in_err-read-in-F64.ensures.1
    (f64 _ (value_view c.in-Some.payload.value.now)
    (λ bits u. c.in_err-read-in-F64.ensures.accepts (record { 0 = bits }) u.1) c.in-F64.is x.0 u)

pub returns-in_err-read-in-F32-clause-accepts : goal.returns-in_err-read-in-F32-clause-accepts
returns-in_err-read-in-F32-clause-accepts c = λ x h.
    let v = rw c.in-Some.is at c.in_ok-name.ensures.reads in
    let u = of_variant (λ name payload. IsLiteralOf name payload x.0) _ _ _ v h in
    passed_on _ _ c.from_residual-in_err-read-in-F32.ensures.1
    (f32 _ (value_view c.in-Some.payload.value.now)
    (λ bits u. c.in_err-read-in-F32.ensures.accepts (record { 0 = bits }) u.1) c.in-F32.is x.0 u)

pub returns-in_err-read-in-AbstractFloat-clause-accepts : goal.returns-in_err-read-in-AbstractFloat-clause-accepts
returns-in_err-read-in-AbstractFloat-clause-accepts c = λ x h.
    let v = rw c.in-Some.is at c.in_ok-name.ensures.reads in
    let u = of_variant (λ name payload. IsLiteralOf name payload x.0) _ _ _ v h in
    passed_on _ _ c.from_residual-in_err-read-in-AbstractFloat.ensures.1
    (abstract_float _ (value_view c.in-Some.payload.value.now)
    (λ bits u. c.in_err-read-in-AbstractFloat.ensures.accepts (record { 0 = bits }) u.1) c.in-AbstractFloat.is x.0 u)
