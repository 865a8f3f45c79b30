use Rattle.sample_reports.proofs.Unique.{reports_are_unique}
use Rattle.sample_reports.proofs.laws.reports_are_unique.Goals as goal

pub returns : goal.returns
returns c = reports_are_unique
