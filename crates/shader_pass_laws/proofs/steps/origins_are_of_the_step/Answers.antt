use Rattle.shader_passes.proofs.OriginLemmas.{origins_of_the_step}
use Rattle.shader_pass_laws.proofs.steps.origins_are_of_the_step.Goals as goal

pub returns : goal.returns
returns c = origins_of_the_step
