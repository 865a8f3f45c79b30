use Rattle.std.proofs.lemmas.Result.{IfOk-weaker}
use Rattle.shader_passes.specs.Causes.{settings_of}
use Rattle.sample_reports.specs.Reports.{IsModuleReport}
use Rattle.sample_reports.specs.Reporting.{ReportsAll, ReportsRefusal}
use Rattle.sample_reports.proofs.ExactReports.{acceptance_is, refusal_is}
use Rattle.sample_reports.proofs.building.report_module.Goals as goal

pub returns-in-Ok : goal.returns-in-Ok
returns-in-Ok c =
    let m = c.args.module.now in
    let settings = settings_of c.args.flags c.args.capabilities in
    IfOk-weaker c.accepted.result (ReportsAll m c.in-Ok.infos) (IsModuleReport m settings)
    (λ report reported. acceptance_is m settings c.in-Ok.infos report c.in-Ok.ensures.exact c.in-Ok.ensures.pairs c.in-Ok.ensures.accepted
    reported)
    c.accepted.ensures

pub returns-in-Err : goal.returns-in-Err
returns-in-Err c =
    let m = c.args.module.now in
    let settings = settings_of c.args.flags c.args.capabilities in
    IfOk-weaker c.refused.result (ReportsRefusal c.in-Err.error) (IsModuleReport m settings)
    (λ report reported. refusal_is m settings c.in-Err.error report c.in-Err.ensures.refused reported) c.refused.ensures.report
