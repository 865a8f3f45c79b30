use Rattle.typer_answers.proofs.InputSpellings.{requests_are_answered}
use Rattle.typer_answers.proofs.laws.requests_are_answered.Goals as goal

pub returns : goal.returns
returns c = requests_are_answered
