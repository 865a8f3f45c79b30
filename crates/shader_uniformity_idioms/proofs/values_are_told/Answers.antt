use Rattle.shader_uniformity_idioms.proofs.Decided as decided
use Rattle.shader_uniformity_idioms.proofs.values_are_told.Goals as goal

pub returns : goal.returns
returns c = decided.values_are_told
