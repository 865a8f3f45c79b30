use Rattle.std.proofs.Common.{List, ℕ, ◌∙◌, subst, sym}
use Rattle.pethuvazh.specs.Copies.{IsCopy}
use Rattle.pethuvazh.specs.Reports.{EndsWith}
use Rattle.pethuvazh.specs.declared.status.ReportStatus.{ReportStatus}
use Rattle.pethuvazh.proofs.Written.{written_report}
use Rattle.pethuvazh.proofs.reports.report_into.Goals as goal

pub returns-in-Ok : goal.returns-in-Ok
returns-in-Ok c =
    let json = c.args.json.now in
    let before = c.args.text.now in
    let after = c.copy.new.buffer in
    let told = c.copy.new.length in
    let report = c.in-Ok.report in
    let given = sym c.options_from.ensures ∙ c.in-Some.is in
    let copy = subst (λ (text : List ℕ). IsCopy text before after told) c.as_slice.ensures.value c.copy.ensures in
    subst (λ (status : ReportStatus). EndsWith c.args.flags json before after told status) (sym c.of.ensures)
    (written_report c.args.flags json before after told c.in-Some.options report.outcome report.text.items given c.in-Ok.ensures copy)
