use Rattle.shader_uniformity.proofs.ExistLemmas as exist
use Rattle.shader_uniformity.proofs.laws.empty_calls_run.Goals as goal

pub returns : goal.returns
returns g c = exist.empty_calls_run _ _
