use Rattle.shader_uniformity.proofs.TogetherLemmas.{entry_points}
use Rattle.shader_uniformity.proofs.laws.entry_points_stay_together.Goals as goal

pub returns : goal.returns
returns g c = entry_points _ _
