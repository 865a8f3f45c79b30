use Rattle.shader_analysis_spec.proofs.BitsLemmas.{numbers_are_sets}
use Rattle.shader_analysis_spec.proofs.laws.numbers_are_sets.Goals as goal

pub returns : goal.returns
returns c = numbers_are_sets
