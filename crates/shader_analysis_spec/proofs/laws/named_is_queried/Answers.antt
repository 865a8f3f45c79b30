use Rattle.shader_analysis_spec.proofs.SampleLemmas.{named_is_queried}
use Rattle.shader_analysis_spec.proofs.laws.named_is_queried.Goals as goal

pub returns : goal.returns
returns c = named_is_queried
