use Rattle.shader_resolve.proofs.ContextLemmas.{contexts_of_well_formed}
use Rattle.shader_resolve.proofs.laws.contexts_of_well_formed_modules_fit.Goals as goal

pub returns : goal.returns
returns c = contexts_of_well_formed
