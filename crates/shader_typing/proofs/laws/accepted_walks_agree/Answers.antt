use Rattle.shader_typing.proofs.DivergenceLemmas.{accepted_walks_agree}
use Rattle.shader_typing.proofs.laws.accepted_walks_agree.Goals as goal

pub returns : goal.returns
returns c = accepted_walks_agree
