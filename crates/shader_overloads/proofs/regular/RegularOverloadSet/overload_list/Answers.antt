use Rattle.shader_overloads.proofs.RegularLemmas.{regular_within}
use Rattle.shader_overloads.proofs.regular.RegularOverloadSet.overload_list.Goals as goal

pub overload_list-requires : goal.overload_list-requires
overload_list-requires c = regular_within c.self.inside.set.table c.self.inside.set.mask c.self.invariant.last
