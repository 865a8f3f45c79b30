use Rattle.shader_typing.proofs.DivergenceLemmas.{alike_walks_pass_alike}
use Rattle.shader_typing.proofs.laws.alike_walks_pass_alike.Goals as goal

pub returns : goal.returns
returns c = alike_walks_pass_alike
