use Rattle.shader_uniformity_trace.proofs.ChainLemmas.{chains_are_of_origins}
use Rattle.shader_uniformity_trace.proofs.laws.chains_are_of_origins.Goals as goal

pub returns : goal.returns
returns c = chains_are_of_origins
