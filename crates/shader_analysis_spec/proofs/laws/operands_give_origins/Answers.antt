use Rattle.shader_analysis_spec.proofs.StoredLemmas.{operands_give_origins}
use Rattle.shader_analysis_spec.proofs.laws.operands_give_origins.Goals as goal

pub returns : goal.returns
returns c = operands_give_origins
