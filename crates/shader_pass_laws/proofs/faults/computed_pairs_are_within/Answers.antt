use Rattle.shader_pass_laws.proofs.Pairs.{computed_pairs_are_within}
use Rattle.shader_pass_laws.proofs.faults.computed_pairs_are_within.Goals as goal

pub returns : goal.returns
returns c = computed_pairs_are_within
