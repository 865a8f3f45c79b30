use Rattle.shader_analysis_spec.proofs.TypeLemmas.{derived_types_have_keys}
use Rattle.shader_analysis_spec.proofs.laws.derived_types_have_keys.Goals as goal

pub returns : goal.returns
returns c = derived_types_have_keys
