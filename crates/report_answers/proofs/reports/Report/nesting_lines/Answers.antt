use Rattle.std.proofs.lemmas.Result.{IfOk-weaker}
use Rattle.report_answers.proofs.reports.Report.nesting_lines.Goals as goal

pub returns : goal.returns
returns c =
    IfOk-weaker c.input_text.result _ _ (λ text is. record {
      diagnostic = c.in_ok-diagnostic.diagnostic;
      of = c.in_ok-diagnostic.ensures;
      printed = is;
    }) c.input_text.ensures
