use Rattle.report_answers.proofs.JsonLemmas.{members_are_listed, reports_are_json}
use Rattle.report_answers.proofs.laws.reports_are_json.Goals as goal

pub returns : goal.returns
returns c = record { reports = reports_are_json; members = members_are_listed }
