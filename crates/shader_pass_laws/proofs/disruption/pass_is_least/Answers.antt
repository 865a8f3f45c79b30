use Rattle.shader_pass_laws.proofs.DisruptorLemmas.{pass_is_least}
use Rattle.shader_pass_laws.proofs.disruption.pass_is_least.Goals as goal

pub returns : goal.returns
returns c = pass_is_least
