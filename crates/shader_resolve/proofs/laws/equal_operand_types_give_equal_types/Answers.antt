use Rattle.shader_resolve.proofs.CongruenceLemmas.{results-alike}
use Rattle.shader_resolve.proofs.laws.equal_operand_types_give_equal_types.Goals as goal

pub returns : goal.returns
returns g c = results-alike _ _
