use Rattle.shader_overloads.proofs.RegularLemmas.{regular_within}
use Rattle.shader_overloads.proofs.regular.RegularOverloadSet.is_empty.Goals as goal

pub is_empty-requires : goal.is_empty-requires
is_empty-requires c = regular_within c.self.inside.set.table c.self.inside.set.mask c.self.invariant.last
