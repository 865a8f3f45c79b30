use Rattle.shader_analysis_spec.proofs.SampleLemmas.{emitted_is_needed}
use Rattle.shader_analysis_spec.proofs.laws.emitted_is_needed.Goals as goal

pub returns : goal.returns
returns c = emitted_is_needed
