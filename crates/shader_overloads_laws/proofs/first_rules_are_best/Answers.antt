use Rattle.shader_overloads_laws.proofs.Optimal as optimal
use Rattle.shader_overloads_laws.proofs.Sets as sets
use Rattle.shader_overloads_laws.proofs.first_rules_are_best.Goals as goal

pub returns-clause-best : goal.returns-clause-best
returns-clause-best c = optimal.first_rules_are_best

pub returns-clause-mixed : goal.returns-clause-mixed
returns-clause-mixed c = sets.mixed_sets_have_abstract_ints
