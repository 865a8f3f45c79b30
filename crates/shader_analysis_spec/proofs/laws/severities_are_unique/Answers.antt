use Rattle.shader_analysis_spec.proofs.TypeLemmas.{severities_are_unique}
use Rattle.shader_analysis_spec.proofs.laws.severities_are_unique.Goals as goal

pub returns : goal.returns
returns c = severities_are_unique
