use Rattle.shader_overloads.proofs.NarrowLawLemmas.{calls_commute, calls_repeat}
use Rattle.shader_overloads.proofs.laws.calls_commute.Goals as goal

pub returns-clause-commute : goal.returns-clause-commute
returns-clause-commute c = calls_commute

pub returns-clause-repeat : goal.returns-clause-repeat
returns-clause-repeat c = calls_repeat
