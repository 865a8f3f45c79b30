use Rattle.shader_typing.proofs.Growing.{infos_grow, none_are_stored}
use Rattle.shader_typing.proofs.laws.infos_grow.Goals as goal

pub returns-clause-none : goal.returns-clause-none
returns-clause-none c = none_are_stored

pub returns-clause-more : goal.returns-clause-more
returns-clause-more c = infos_grow
