use Rattle.std.proofs.Common.{length}
use Rattle.shader_json_functions.proofs.NextLemmas.{ItemsSoFar}
use Rattle.shader_json_functions.proofs.next.ItemsReadNext.read_next.Given as goal

abbrev pub invariant-loop-context : goal.invariant-loop-context
invariant-loop-context g l = ItemsSoFar g.T.ReadNext.stands l.inside l.initial.reader l.reader l.items.items

abbrev pub decreases-loop-context : goal.decreases-loop-context
decreases-loop-context g l = length l.reader
