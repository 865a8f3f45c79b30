use Rattle.shader_analysis_spec.proofs.WalkLemmas.{disruption_means_divergence}
use Rattle.shader_analysis_spec.proofs.laws.disruption_means_divergence.Goals as goal

pub returns : goal.returns
returns c = disruption_means_divergence
