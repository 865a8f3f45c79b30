use Rattle.shader_analysis_spec.proofs.SampleLemmas.{pairs_are_led_back}
use Rattle.shader_analysis_spec.proofs.laws.pairs_are_led_back.Goals as goal

pub returns : goal.returns
returns c = pairs_are_led_back
