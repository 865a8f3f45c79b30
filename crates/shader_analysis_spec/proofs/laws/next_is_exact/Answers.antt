use Rattle.shader_analysis_spec.proofs.StoredLemmas.{next_is_exact}
use Rattle.shader_analysis_spec.proofs.laws.next_is_exact.Goals as goal

pub returns : goal.returns
returns c = next_is_exact
