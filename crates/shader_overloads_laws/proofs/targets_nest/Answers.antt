use Rattle.shader_overloads_laws.proofs.Sets as sets
use Rattle.shader_overloads_laws.proofs.targets_nest.Goals as goal

pub returns-clause-nested : goal.returns-clause-nested
returns-clause-nested c = sets.targets_nest
