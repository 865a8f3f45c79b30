use Rattle.shader_pass_laws.proofs.DisruptorLemmas.{pass_finds_violations}
use Rattle.shader_pass_laws.proofs.disruption.pass_finds_violations.Goals as goal

pub returns : goal.returns
returns c = pass_finds_violations
