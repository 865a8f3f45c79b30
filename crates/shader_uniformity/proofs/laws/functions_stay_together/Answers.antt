use Rattle.shader_uniformity.proofs.TogetherLemmas.{functions}
use Rattle.shader_uniformity.proofs.laws.functions_stay_together.Goals as goal

pub returns : goal.returns
returns g c = functions _ _
