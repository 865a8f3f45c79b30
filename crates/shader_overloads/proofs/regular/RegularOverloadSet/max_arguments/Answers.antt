use Rattle.shader_overloads.proofs.CountLemmas.{greatest_count}
use Rattle.shader_overloads.proofs.regular.RegularOverloadSet.max_arguments.Goals as goal

pub returns : goal.returns
returns c = greatest_count c.self.inside.set.table c.self.inside.set.mask c.args.self.now c.self.view_is c.requires
