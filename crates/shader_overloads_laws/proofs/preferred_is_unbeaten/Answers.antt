use Rattle.shader_overloads_laws.proofs.Optimal as optimal
use Rattle.shader_overloads_laws.proofs.preferred_is_unbeaten.Goals as goal

pub returns : goal.returns
returns c = optimal.preferred_is_unbeaten
