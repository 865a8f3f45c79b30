use Rattle.typer_answers.proofs.ArraysLeave.{arrays_leave_no_rule}
use Rattle.typer_answers.proofs.laws.arrays_leave_no_rule.Goals as goal

pub returns : goal.returns
returns c = arrays_leave_no_rule
