use Rattle.shader_resolve.proofs.QueriedLemmas.{queried}
use Rattle.shader_resolve.proofs.laws.queried_are_operands.Goals as goal

pub returns : goal.returns
returns c = queried
