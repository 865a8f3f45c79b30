use Rattle.report_answers.proofs.OutcomeLemmas.{modules_are_not_refused}
use Rattle.report_answers.proofs.laws.modules_are_not_refused.Goals as goal

pub returns : goal.returns
returns c = modules_are_not_refused
