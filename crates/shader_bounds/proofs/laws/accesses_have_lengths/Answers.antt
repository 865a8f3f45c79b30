use Rattle.shader_bounds.proofs.LawLemmas.{accesses_have_lengths}
use Rattle.shader_bounds.proofs.laws.accesses_have_lengths.Goals as goal

pub returns : goal.returns
returns c = accesses_have_lengths
