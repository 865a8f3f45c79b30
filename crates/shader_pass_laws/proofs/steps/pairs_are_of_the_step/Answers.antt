use Rattle.shader_pass_laws.proofs.ResultLemmas.{pairs_of_the_step}
use Rattle.shader_pass_laws.proofs.steps.pairs_are_of_the_step.Goals as goal

pub returns : goal.returns
returns c = pairs_of_the_step
