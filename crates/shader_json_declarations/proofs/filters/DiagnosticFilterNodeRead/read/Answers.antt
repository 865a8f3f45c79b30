use Rattle.shader_json_reader.proofs.AnswerLemmas.{of_members, passed_on}
use Rattle.shader_json_declarations.proofs.filters.DiagnosticFilterNodeRead.read.Goals as goal

pub returns-in_err-severity-clause-accepts : goal.returns-in_err-severity-clause-accepts
returns-in_err-severity-clause-accepts c = λ x h.
    let f = of_members _ _ _ c.in_ok-fields.ensures.reads h in
    passed_on _ _ c.from_residual-in_err-severity.ensures.1 (c.in_err-severity.ensures.accepts (record { severity = x.severity; rule = x.rule }) f.0)

pub returns-in_err-optional-clause-accepts : goal.returns-in_err-optional-clause-accepts
returns-in_err-optional-clause-accepts c = λ x h.
    let f = of_members _ _ _ c.in_ok-fields.ensures.reads h in
    passed_on _ _ c.from_residual-in_err-optional.ensures.1 (c.in_err-optional.ensures.accepts x.parent f.1)
