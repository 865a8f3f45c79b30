use Rattle.shader_typing.proofs.DecidedLemmas.{origins_are_decided}
use Rattle.shader_typing.proofs.laws.origins_are_decided.Goals as goal

pub returns : goal.returns
returns c = origins_are_decided
