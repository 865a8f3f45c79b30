use Rattle.shader_pass_laws.proofs.ResultLemmas.{results_of_the_step}
use Rattle.shader_pass_laws.proofs.steps.results_are_of_the_step.Goals as goal

pub returns : goal.returns
returns c = results_of_the_step
