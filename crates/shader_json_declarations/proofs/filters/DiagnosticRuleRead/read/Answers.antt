use Rattle.shader_json_reader.proofs.AnswerLemmas.{in_arm, passed_on}
use Rattle.shader_json_declarations.proofs.PayloadLemmas.{of_standard, of_user}
use Rattle.shader_json_declarations.specs.Filters.{IsRuleOf}
use Rattle.shader_json_declarations.proofs.filters.DiagnosticRuleRead.read.Goals as goal

pub returns-in_err-rule-in-Standard-Some-clause-accepts : goal.returns-in_err-rule-in-Standard-Some-clause-accepts
returns-in_err-rule-in-Standard-Some-clause-accepts c = λ x h.
    let arm = c.in-Standard-Some in
    let u = in_arm (λ name payload. IsRuleOf name payload x) _ _ _ _ _ arm.payload c.in_ok-name.ensures.reads arm.is-Standard-0 arm.is-1 h in
    passed_on _ _ c.from_residual-in_err-rule-in-Standard-Some.ensures.1
    (of_standard _ x (λ rule is. c.in_err-rule-in-Standard-Some.ensures.accepts (record { 0 = rule }) is) u)

pub returns-in_err-read-in-User-Some-clause-accepts : goal.returns-in_err-read-in-User-Some-clause-accepts
returns-in_err-read-in-User-Some-clause-accepts c = λ x h.
    let arm = c.in-User-Some in
    let u = in_arm (λ name payload. IsRuleOf name payload x) _ _ _ _ _ arm.payload c.in_ok-name.ensures.reads arm.is-User-0 arm.is-1 h in
    passed_on _ _ c.from_residual-in_err-read-in-User-Some.ensures.1
    (of_user _ x (λ is. c.in_err-read-in-User-Some.ensures.accepts (record {}) is) u)
