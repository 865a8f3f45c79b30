use Rattle.typer_answers.proofs.InputSpellings.{last_lines_may_lack_ends}
use Rattle.typer_answers.proofs.laws.last_lines_may_lack_ends.Goals as goal

pub returns : goal.returns
returns c = last_lines_may_lack_ends
