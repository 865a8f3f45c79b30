use Rattle.shader_analysis_spec.proofs.SampleLemmas.{fall_through_disrupts}
use Rattle.shader_analysis_spec.proofs.laws.fall_through_disrupts.Goals as goal

pub returns : goal.returns
returns c = fall_through_disrupts
