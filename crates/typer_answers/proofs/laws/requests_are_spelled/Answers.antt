use Rattle.typer_answers.proofs.RequestSpellings.{requests_are_spelled}
use Rattle.typer_answers.proofs.laws.requests_are_spelled.Goals as goal

pub returns : goal.returns
returns c = requests_are_spelled
