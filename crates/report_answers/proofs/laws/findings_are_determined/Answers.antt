use Rattle.report_answers.proofs.FindingsLemmas.{findings_are_determined}
use Rattle.report_answers.proofs.laws.findings_are_determined.Goals as goal

pub returns : goal.returns
returns c = findings_are_determined
