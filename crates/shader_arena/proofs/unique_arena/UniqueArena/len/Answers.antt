use Rattle.std.proofs.Common.{subst}
use Rattle.shader_arena.specs.Unique.{HasNoEqualItems}
use Rattle.shader_arena.proofs.UniqueLemmas.{HasNoEqualItems-from_distinct}
use Rattle.shader_arena.proofs.unique_arena.UniqueArena.len.Goals as goal

pub returns-clause-distinct : goal.returns-clause-distinct
returns-clause-distinct g c =
    subst (HasNoEqualItems g.T.PartialEq.eq) c.self.view_is
    (HasNoEqualItems-from_distinct g.T.PartialEq.eq g.met.T.Eq.laws _ c.len.ensures.unique)
