use Rattle.shader_analysis_spec.proofs.StoredLemmas.{entry_is_exact}
use Rattle.shader_analysis_spec.proofs.laws.entry_is_exact.Goals as goal

pub returns : goal.returns
returns c = entry_is_exact
