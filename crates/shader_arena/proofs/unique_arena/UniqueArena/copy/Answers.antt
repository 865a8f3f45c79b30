use Rattle.std.proofs.Common.{rules, ◌≡◌, Some, slice_get}
use Rattle.shader_arena.proofs.UniqueLemmas.{next_unique}
use Rattle.shader_arena.proofs.unique_arena.UniqueArena.copy.Goals as goal

pub loop-position-preserved : goal.loop-position-preserved
loop-position-preserved g c =
    let at : slice_get c.args.self.now c.loop-position.position ≡ Some c.index-item.result.now = search rules in
    let more = next_unique c.args.self.now c.loop-position.position c.index-item.result.now at g.T.PartialEq.eq
    c.len-position-end.ensures.distinct in
    let put = c.in_ok-insert.ensures.inserted in
    let item = c.in_ok-try_copy.ensures in
    let before = c.loop-position.invariant in
    cc
