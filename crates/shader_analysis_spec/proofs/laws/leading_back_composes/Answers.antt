use Rattle.shader_analysis_spec.proofs.PairsLemmas.{leading_back_composes}
use Rattle.shader_analysis_spec.proofs.laws.leading_back_composes.Goals as goal

pub returns : goal.returns
returns c = leading_back_composes
