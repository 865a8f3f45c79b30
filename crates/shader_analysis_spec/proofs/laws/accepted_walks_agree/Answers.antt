use Rattle.shader_analysis_spec.proofs.WalkLemmas.{accepted_walks_agree}
use Rattle.shader_analysis_spec.proofs.laws.accepted_walks_agree.Goals as goal

pub returns : goal.returns
returns c = accepted_walks_agree
