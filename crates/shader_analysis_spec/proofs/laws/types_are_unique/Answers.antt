use Rattle.shader_analysis_spec.proofs.TypeLemmas.{types_are_unique}
use Rattle.shader_analysis_spec.proofs.laws.types_are_unique.Goals as goal

pub returns : goal.returns
returns c = types_are_unique
