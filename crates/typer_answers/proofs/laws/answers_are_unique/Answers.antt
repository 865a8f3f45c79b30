use Rattle.typer_answers.proofs.UniqueAnswers.{answers_are_unique}
use Rattle.typer_answers.proofs.laws.answers_are_unique.Goals as goal

pub returns : goal.returns
returns c = answers_are_unique
