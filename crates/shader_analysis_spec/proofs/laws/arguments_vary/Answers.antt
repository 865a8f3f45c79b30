use Rattle.shader_analysis_spec.proofs.SampleLemmas.{arguments_vary}
use Rattle.shader_analysis_spec.proofs.laws.arguments_vary.Goals as goal

pub returns : goal.returns
returns c = arguments_vary
