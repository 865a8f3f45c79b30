use Rattle.shader_pass_laws.proofs.ResultLemmas.{uses_of_the_step}
use Rattle.shader_pass_laws.proofs.steps.uses_are_of_the_step.Goals as goal

pub returns : goal.returns
returns c = uses_of_the_step
