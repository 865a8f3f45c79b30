use Rattle.shader_uniformity_idioms.proofs.Decided as decided
use Rattle.shader_uniformity_idioms.proofs.idioms_are_decided.Goals as goal

pub returns : goal.returns
returns c = decided.idioms_are_decided
