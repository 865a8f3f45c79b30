use Rattle.std.proofs.Common.{◌∙◌, sym}
use Rattle.std.proofs.lemmas.Result.{IfOk-weaker}
use Rattle.report_answers.proofs.ReportLemmas.{people_accepted, people_refused}
use Rattle.report_answers.proofs.reports.Report.text_on.Goals as goal

pub returns-then-is_accepted : goal.returns-then-is_accepted
returns-then-is_accepted c =
    let is = sym c.is_accepted.ensures ∙ c.if-is_accepted.true in
    IfOk-weaker c.lines_on.result _ _
    (λ text printed. λ j root. people_accepted c.args.options c.args.input.now j c.args.module.now c.args.analyzed.now text is (printed j root))
    c.lines_on.ensures

pub returns-else-is_accepted : goal.returns-else-is_accepted
returns-else-is_accepted c =
    let is = sym c.is_accepted.ensures ∙ c.if-is_accepted.false in
    IfOk-weaker c.refusal_on.result _ _
    (λ text printed. λ j root. people_refused c.args.options c.args.input.now j c.args.module.now c.args.analyzed.now text is (printed j root))
    c.refusal_on.ensures
