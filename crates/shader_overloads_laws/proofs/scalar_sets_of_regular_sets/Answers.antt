use Rattle.shader_overloads_laws.proofs.Regulars as regulars
use Rattle.shader_overloads_laws.proofs.scalar_sets_of_regular_sets.Goals as goal

pub returns-clause-regular : goal.returns-clause-regular
returns-clause-regular c = regulars.regular_sets_stay_regular

pub returns-clause-scalars : goal.returns-clause-scalars
returns-clause-scalars c = regulars.regular_scalars_arise
