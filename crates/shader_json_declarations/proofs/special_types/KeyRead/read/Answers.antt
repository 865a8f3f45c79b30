use Rattle.shader_json_reader.proofs.AnswerLemmas.{in_arm, passed_on}
use Rattle.shader_json_declarations.proofs.KeyLemmas.{IsKeyOf, key_of, of_frexp_key, of_modf_key}
use Rattle.shader_json_declarations.proofs.special_types.KeyRead.read.Goals as goal

pub returns-in_err-size-in-ModfResult-Some-clause-accepts : goal.returns-in_err-size-in-ModfResult-Some-clause-accepts
returns-in_err-size-in-ModfResult-Some-clause-accepts c = λ x h.
    let arm = c.in-ModfResult-Some in
    let u = in_arm (λ name payload. IsKeyOf name payload x) _ _ _ _ _ arm.payload c.in_ok-name.ensures.reads arm.is-ModfResult-0 arm.is-1
    (key_of _ x h) in
    passed_on _ _ c.from_residual-in_err-size-in-ModfResult-Some.ensures.1 (of_modf_key _ x (λ size scalar shape.
    c.in_err-size-in-ModfResult-Some.ensures.accepts (record { size = size; scalar = scalar }) shape) u)

pub returns-in_err-size-in-FrexpResult-Some-clause-accepts : goal.returns-in_err-size-in-FrexpResult-Some-clause-accepts
returns-in_err-size-in-FrexpResult-Some-clause-accepts c = λ x h.
    let arm = c.in-FrexpResult-Some in
    let u = in_arm (λ name payload. IsKeyOf name payload x) _ _ _ _ _ arm.payload c.in_ok-name.ensures.reads arm.is-FrexpResult-0 arm.is-1
    (key_of _ x h) in
    passed_on _ _ c.from_residual-in_err-size-in-FrexpResult-Some.ensures.1 (of_frexp_key _ x (λ size scalar shape.
    c.in_err-size-in-FrexpResult-Some.ensures.accepts (record { size = size; scalar = scalar }) shape) u)
