use Rattle.std.proofs.Common.{length}
use Rattle.shader_json_functions.proofs.NextLemmas.{MembersSoFar}
use Rattle.shader_json_functions.proofs.parts.Parts.read_next.Given as goal

abbrev pub invariant-loop-rest : goal.invariant-loop-rest
invariant-loop-rest g l =
    MembersSoFar g.A.ReadNext.stands g.B.ReadNext.stands l.first_name l.second_name l.inside l.initial.reader l.reader l.first
    l.second l.rest.items

abbrev pub decreases-loop-rest : goal.decreases-loop-rest
decreases-loop-rest g l = length l.reader
