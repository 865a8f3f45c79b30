use Rattle.std.proofs.Common.{◌≡◌, drop}
use Rattle.shader_ir.specs.TreeQueries.{are_constructible}
use Rattle.shader_ir.proofs.MemberLemmas.{member_trees}
use Rattle.shader_ir.proofs.ReachLemmas.{reach}
use Rattle.shader_ir.proofs.types.TypeInner.+is_constructible.Given as goal

-- the members so far are constructible
abbrev pub invariant-loop-member : goal.invariant-loop-member
invariant-loop-member l = are_constructible (member_trees l.types l.member-items)
    ≡ are_constructible (member_trees l.types (drop l.member-index l.member-items))

abbrev pub decreases-is_constructible : goal.decreases-is_constructible
decreases-is_constructible l = reach l.self.now
