use Rattle.shader_analysis_spec.proofs.Summaries.{step_is_exact}
use Rattle.shader_analysis_spec.proofs.laws.step_is_exact.Goals as goal

pub returns : goal.returns
returns c = step_is_exact
