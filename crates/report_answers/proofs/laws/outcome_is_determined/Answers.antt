use Rattle.report_answers.proofs.OutcomeLemmas.{outcome_is_determined}
use Rattle.report_answers.proofs.laws.outcome_is_determined.Goals as goal

pub returns : goal.returns
returns c = outcome_is_determined
