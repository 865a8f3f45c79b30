use Rattle.shader_analysis_spec.proofs.SampleLemmas.{branches_kill}
use Rattle.shader_analysis_spec.proofs.laws.branches_kill.Goals as goal

pub returns : goal.returns
returns c = branches_kill
