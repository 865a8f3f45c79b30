use Rattle.shader_pass_laws.proofs.Pairs.{collected_pairs_fit}
use Rattle.shader_pass_laws.proofs.faults.collected_pairs_fit.Goals as goal

pub returns : goal.returns
returns c = collected_pairs_fit
