use Rattle.shader_overloads_laws.proofs.Scalars as scalars
use Rattle.shader_overloads_laws.proofs.ranks_are_of_conversions.Goals as goal

pub returns-clause-conversions : goal.returns-clause-conversions
returns-clause-conversions c = scalars.conversions_have_ranks
