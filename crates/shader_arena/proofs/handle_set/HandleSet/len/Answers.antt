use Rattle.std.proofs.Common.{ap, arith, length}
use Rattle.shader_arena.proofs.MembersLemmas.{length-members_from}
use Rattle.shader_arena.proofs.handle_set.HandleSet.len.Goals as goal

pub returns-clause-within : goal.returns-clause-within
returns-clause-within g c =
    let few = length-members_from 0 c.args.self.now in
    omega (arith, few, c.count.ensures.bound, ap length c.iter.ensures.members)
