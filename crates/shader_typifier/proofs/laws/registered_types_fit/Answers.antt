use Rattle.shader_typifier.proofs.RegisterLemmas.{registered_types_fit}
use Rattle.shader_typifier.proofs.laws.registered_types_fit.Goals as goal

pub returns : goal.returns
returns c = registered_types_fit
