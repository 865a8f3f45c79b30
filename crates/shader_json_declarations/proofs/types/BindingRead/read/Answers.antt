use Rattle.shader_json_reader.proofs.AnswerLemmas.{in_arm, passed_on}
use Rattle.shader_json_declarations.proofs.PayloadLemmas.{of_built_in, of_location}
use Rattle.shader_json_declarations.specs.Types.{IsBindingOf}
use Rattle.shader_json_declarations.proofs.types.BindingRead.read.Goals as goal

pub returns-in_err-read-in-BuiltIn-Some-clause-accepts : goal.returns-in_err-read-in-BuiltIn-Some-clause-accepts
returns-in_err-read-in-BuiltIn-Some-clause-accepts c = λ x h.
    let arm = c.in-BuiltIn-Some in
    let u = in_arm (λ name payload. IsBindingOf name payload x) _ _ _ _ _ arm.payload c.in_ok-name.ensures.reads arm.is-BuiltIn-0 arm.is-1 h in
    passed_on _ _ c.from_residual-in_err-read-in-BuiltIn-Some.ensures.1 (of_built_in _ x c.in_err-read-in-BuiltIn-Some.ensures.accepts u)

pub returns-in_err-location-in-Location-Some-clause-accepts : goal.returns-in_err-location-in-Location-Some-clause-accepts
returns-in_err-location-in-Location-Some-clause-accepts c = λ x h.
    let arm = c.in-Location-Some in
    let u = in_arm (λ name payload. IsBindingOf name payload x) _ _ _ _ _ arm.payload c.in_ok-name.ensures.reads arm.is-Location-0 arm.is-1 h in
    passed_on _ _ c.from_residual-in_err-location-in-Location-Some.ensures.1
    (of_location _ x c.in_err-location-in-Location-Some.ensures.accepts u)
