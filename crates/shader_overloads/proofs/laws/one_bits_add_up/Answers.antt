use Rattle.shader_overloads.proofs.OneBitsLemmas.{one_bits-add_up, one_bits-grow, one_bits-powers}
use Rattle.shader_overloads.proofs.laws.one_bits_add_up.Goals as goal

pub returns-clause-powers : goal.returns-clause-powers
returns-clause-powers c = one_bits-powers

pub returns-clause-growing : goal.returns-clause-growing
returns-clause-growing c = one_bits-grow

pub returns-clause-sum : goal.returns-clause-sum
returns-clause-sum c = one_bits-add_up
