use Rattle.shader_bounds.proofs.LawLemmas.{checks_are_of_derived}
use Rattle.shader_bounds.proofs.laws.checks_are_of_derived.Goals as goal

pub returns : goal.returns
returns c = checks_are_of_derived
