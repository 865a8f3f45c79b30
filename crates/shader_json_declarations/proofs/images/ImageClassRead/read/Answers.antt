use Rattle.shader_json_reader.proofs.AnswerLemmas.{in_arm, passed_on}
use Rattle.shader_json_declarations.proofs.PayloadLemmas.{of_depth, of_sampled, of_storage}
use Rattle.shader_json_declarations.specs.Scalars.{IsClassOf}
use Rattle.shader_json_declarations.proofs.images.ImageClassRead.read.Goals as goal

pub returns-in_err-kind-in-Sampled-Some-clause-accepts : goal.returns-in_err-kind-in-Sampled-Some-clause-accepts
returns-in_err-kind-in-Sampled-Some-clause-accepts c = λ x h.
    let arm = c.in-Sampled-Some in
    let u = in_arm (λ name payload. IsClassOf name payload x) _ _ _ _ _ arm.payload c.in_ok-name.ensures.reads arm.is-Sampled-0 arm.is-1 h in
    passed_on _ _ c.from_residual-in_err-kind-in-Sampled-Some.ensures.1
    (of_sampled _ x c.in_err-kind-in-Sampled-Some.ensures.accepts u)

pub returns-in_err-field-in-Depth-Some-clause-accepts : goal.returns-in_err-field-in-Depth-Some-clause-accepts
returns-in_err-field-in-Depth-Some-clause-accepts c = λ x h.
    let arm = c.in-Depth-Some in
    let u = in_arm (λ name payload. IsClassOf name payload x) _ _ _ _ _ arm.payload c.in_ok-name.ensures.reads arm.is-Depth-0 arm.is-1 h in
    passed_on _ _ c.from_residual-in_err-field-in-Depth-Some.ensures.1
    (of_depth _ x c.in_err-field-in-Depth-Some.ensures.accepts u)

pub returns-in_err-format-in-Storage-Some-clause-accepts : goal.returns-in_err-format-in-Storage-Some-clause-accepts
returns-in_err-format-in-Storage-Some-clause-accepts c = λ x h.
    let arm = c.in-Storage-Some in
    let u = in_arm (λ name payload. IsClassOf name payload x) _ _ _ _ _ arm.payload c.in_ok-name.ensures.reads arm.is-Storage-0 arm.is-1 h in
    passed_on _ _ c.from_residual-in_err-format-in-Storage-Some.ensures.1
    (of_storage _ x c.in_err-format-in-Storage-Some.ensures.accepts u)
