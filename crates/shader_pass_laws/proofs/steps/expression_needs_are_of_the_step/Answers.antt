use Rattle.shader_pass_laws.proofs.ResultLemmas.{expression_needs_of_the_step}
use Rattle.shader_pass_laws.proofs.steps.expression_needs_are_of_the_step.Goals as goal

pub returns : goal.returns
returns c = expression_needs_of_the_step
