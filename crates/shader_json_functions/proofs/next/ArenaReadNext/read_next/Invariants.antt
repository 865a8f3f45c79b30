use Rattle.std.proofs.Common.{◌≤◌, length}
use Rattle.shader_arena.specs.Positions.{most_items}
use Rattle.shader_json_functions.proofs.NextLemmas.{ItemsSoFar}
use Rattle.shader_json_functions.proofs.next.ArenaReadNext.read_next.Given as goal

abbrev pub invariant-loop-context : goal.invariant-loop-context
invariant-loop-context g l = record {
  so_far : ItemsSoFar g.T.ReadNext.stands l.inside l.initial.reader l.reader l.arena;
  few : length l.arena ≤ most_items;
}

abbrev pub decreases-loop-context : goal.decreases-loop-context
decreases-loop-context g l = length l.reader
