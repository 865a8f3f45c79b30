use Rattle.shader_analysis_spec.proofs.WalkLemmas.{infos_decide}
use Rattle.shader_analysis_spec.proofs.laws.infos_decide.Goals as goal

pub returns : goal.returns
returns c = infos_decide
