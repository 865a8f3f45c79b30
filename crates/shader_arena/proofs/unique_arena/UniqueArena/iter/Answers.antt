use Rattle.std.proofs.Common.{subst, ap, ◌∙◌}
use Rattle.shader_arena.specs.Positions.{items_of}
use Rattle.shader_arena.specs.Unique.{HasNoEqualItems}
use Rattle.shader_arena.proofs.PositionsLemmas.{items_of-enumerate_from}
use Rattle.shader_arena.proofs.UniqueLemmas.{HasNoEqualItems-from_distinct}
use Rattle.shader_arena.proofs.unique_arena.UniqueArena.iter.Goals as goal

pub returns-clause-items : goal.returns-clause-items
returns-clause-items g c = ap items_of c.new.ensures ∙ items_of-enumerate_from 0 _ ∙ cc

pub returns-clause-distinct : goal.returns-clause-distinct
returns-clause-distinct g c =
    subst (HasNoEqualItems g.T.PartialEq.eq) c.self.view_is
    (HasNoEqualItems-from_distinct g.T.PartialEq.eq g.met.T.Eq.laws _ c.as_slice.ensures.unique)
