use Rattle.typer_answers.proofs.SampleFaults.{samples_have_one_report}
use Rattle.typer_answers.proofs.laws.samples_have_one_report.Goals as goal

pub returns : goal.returns
returns c = samples_have_one_report
