use Rattle.std.proofs.Common.{◌≡◌, arith}
use Rattle.shader_arena.proofs.MembersLemmas.{Contains-members, length-members_from, IsStrictlyIncreasing-members}
use Rattle.shader_arena.proofs.handle_set.HandleSet.iter.Goals as goal

pub returns-clause-each_member : goal.returns-clause-each_member
returns-clause-each_member g c position =
    let same : c.args.self.now ≡ c.as_slice.result.now = cc in
    rw same (Contains-members c.as_slice.result.now position)

pub returns-clause-ascending : goal.returns-clause-ascending
returns-clause-ascending g c = IsStrictlyIncreasing-members c.as_slice.result.now

pub returns-clause-most : goal.returns-clause-most
returns-clause-most g c =
    let few = length-members_from 0 c.as_slice.result.now in omega (arith, few, c.self.invariant)
