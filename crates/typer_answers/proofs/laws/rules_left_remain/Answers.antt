use Rattle.typer_answers.proofs.Supplied.{rules_left_remain}
use Rattle.typer_answers.proofs.laws.rules_left_remain.Goals as goal

pub returns : goal.returns
returns c = rules_left_remain
