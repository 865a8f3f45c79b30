use Rattle.shader_arena.proofs.UniqueLemmas.{HasNoEqualItems-from_distinct, IsOnlyPositionOf-stored}
use Rattle.shader_arena.proofs.unique_arena.UniqueArena.insert.Goals as goal

pub returns-in_err-position-clause-distinct : goal.returns-in_err-position-clause-distinct
returns-in_err-position-clause-distinct g c =
    HasNoEqualItems-from_distinct g.T.PartialEq.eq g.met.T.Eq.laws _ c.insert_full.ensures.unique

pub returns-clause-only : goal.returns-clause-only
returns-clause-only g c =
    rw c.from_index.ensures (IsOnlyPositionOf-stored g.T.PartialEq.eq g.met.T.Eq.laws _ c.insert_full.ensures.unique c.args.value
    c.in_ok-position.position c.in_ok-position.ensures.stored)

pub returns-clause-distinct : goal.returns-clause-distinct
returns-clause-distinct g c =
    HasNoEqualItems-from_distinct g.T.PartialEq.eq g.met.T.Eq.laws _ c.insert_full.ensures.unique
