use Rattle.typer_answers.proofs.InputSpellings.{bad_lines_end_answers}
use Rattle.typer_answers.proofs.laws.bad_lines_end_answers.Goals as goal

pub returns : goal.returns
returns c = bad_lines_end_answers
