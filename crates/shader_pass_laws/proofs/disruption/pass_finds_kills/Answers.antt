use Rattle.shader_pass_laws.proofs.DisruptorLemmas.{pass_finds_kills}
use Rattle.shader_pass_laws.proofs.disruption.pass_finds_kills.Goals as goal

pub returns : goal.returns
returns c = pass_finds_kills
