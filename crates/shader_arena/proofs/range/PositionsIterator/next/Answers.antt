use Rattle.std.proofs.Common.{rules, ◌∙◌, sym, arith}
use Rattle.shader_arena.proofs.PositionsLemmas.{positions_between-cons}
use Rattle.shader_arena.proofs.range.PositionsIterator.next.Goals as goal

pub returns-clause-steps : goal.returns-clause-steps
returns-clause-steps g c =
    let first = positions_between-cons c.self.inside.next c.self.inside.end (omega arith) in
    rw c.from_index-handle.ensures (sym c.self.view_is ∙ first)

pub returns-clause-goes : goal.returns-clause-goes
returns-clause-goes g c =
    let first = sym c.self.view_is ∙ positions_between-cons c.self.inside.next c.self.inside.end (omega arith) in
    rw first (search rules)
