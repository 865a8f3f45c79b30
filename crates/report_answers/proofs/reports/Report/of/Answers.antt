use Rattle.std.proofs.Common.{subst}
use Rattle.std.proofs.lemmas.Result.{IfOk-weaker}
use Rattle.report_answers.specs.Reading.{IsReading}
use Rattle.report_answers.proofs.ReportLemmas.{read_told}
use Rattle.report_answers.proofs.reports.Report.of.Goals as goal

pub returns-in-Module : goal.returns-in-Module
returns-in-Module g c =
    IfOk-weaker c.on_module.result _ _
    (λ report on. λ reading. read_told c.args.options c.args.input.now c.in-Module.read.module report.outcome report.text.items on
    (subst (IsReading c.args.options c.args.input.now) c.in-Module.is reading)) c.on_module.ensures
