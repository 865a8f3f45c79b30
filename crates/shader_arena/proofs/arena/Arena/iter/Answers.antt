use Rattle.std.proofs.Common.{ap, ◌∙◌}
use Rattle.shader_arena.specs.Positions.{items_of}
use Rattle.shader_arena.proofs.PositionsLemmas.{items_of-enumerate_from}
use Rattle.shader_arena.proofs.arena.Arena.iter.Goals as goal

pub returns-clause-items : goal.returns-clause-items
returns-clause-items g c = ap items_of c.new.ensures ∙ items_of-enumerate_from 0 _ ∙ cc
