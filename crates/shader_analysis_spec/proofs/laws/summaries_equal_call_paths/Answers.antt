use Rattle.shader_analysis_spec.proofs.Summaries.{summaries_equal_call_paths}
use Rattle.shader_analysis_spec.proofs.laws.summaries_equal_call_paths.Goals as goal

pub returns : goal.returns
returns c = summaries_equal_call_paths
