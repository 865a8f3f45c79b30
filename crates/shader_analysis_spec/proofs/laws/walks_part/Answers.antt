use Rattle.shader_analysis_spec.proofs.PartingLemmas.{walks_part}
use Rattle.shader_analysis_spec.proofs.laws.walks_part.Goals as goal

pub returns : goal.returns
returns c = walks_part
