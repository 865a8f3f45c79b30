use Rattle.shader_typifier.proofs.GrownLemmas.{types_fit_larger_arenas}
use Rattle.shader_typifier.proofs.laws.types_fit_larger_arenas.Goals as goal

pub returns : goal.returns
returns c = types_fit_larger_arenas
