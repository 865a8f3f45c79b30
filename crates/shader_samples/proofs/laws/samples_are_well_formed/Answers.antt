use Rattle.shader_samples.proofs.WellFormed.{well_formed}
use Rattle.shader_samples.proofs.laws.samples_are_well_formed.Goals as goal

pub returns : goal.returns
returns c = well_formed
