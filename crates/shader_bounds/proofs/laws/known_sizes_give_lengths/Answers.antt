use Rattle.shader_bounds.proofs.KnownLemmas.{known_sizes_give_lengths}
use Rattle.shader_bounds.proofs.laws.known_sizes_give_lengths.Goals as goal

pub returns : goal.returns
returns c = known_sizes_give_lengths
