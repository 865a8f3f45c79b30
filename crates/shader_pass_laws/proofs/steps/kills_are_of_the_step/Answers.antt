use Rattle.shader_pass_laws.proofs.ResultLemmas.{kills_of_the_step}
use Rattle.shader_pass_laws.proofs.steps.kills_are_of_the_step.Goals as goal

pub returns : goal.returns
returns c = kills_of_the_step
