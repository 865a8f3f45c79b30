use Rattle.shader_pass_laws.proofs.ResultLemmas.{needs_of_the_step}
use Rattle.shader_pass_laws.proofs.steps.needs_are_of_the_step.Goals as goal

pub returns : goal.returns
returns c = needs_of_the_step
