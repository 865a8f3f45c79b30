use Rattle.shader_typifier.proofs.GrownLemmas.{grown_types_are_derived}
use Rattle.shader_typifier.proofs.laws.grown_types_are_derived.Goals as goal

pub returns : goal.returns
returns c = grown_types_are_derived
