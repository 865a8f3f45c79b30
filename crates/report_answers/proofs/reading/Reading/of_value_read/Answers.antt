use Rattle.json.specs.Value.{value_view}
use Rattle.report_answers.proofs.ReportLemmas.{value_told}
use Rattle.report_answers.proofs.reading.Reading.of_value_read.Goals as goal

pub returns : goal.returns
returns g c =
    value_told c.args.options c.args.input.now (value_view c.args.root.now) c.args.module c.in_ok-report.report.outcome
    c.in_ok-report.report.text.items c.requires.utf8 c.requires.parses c.requires.stands c.in_ok-report.ensures
