use Rattle.shader_uniformity_idioms.proofs.Decided as decided
use Rattle.shader_uniformity_idioms.proofs.flows_are_told.Goals as goal

pub returns : goal.returns
returns c = decided.flows_are_told
