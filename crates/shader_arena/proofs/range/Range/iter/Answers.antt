use Rattle.shader_arena.proofs.MembersLemmas.{Contains-positions_between, IsStrictlyIncreasing-positions_between}
use Rattle.shader_arena.proofs.range.Range.iter.Goals as goal

pub returns-clause-each_position : goal.returns-clause-each_position
returns-clause-each_position g c position =
    rw (← c.self.view_is) (Contains-positions_between c.self.inside.start c.self.inside.end position)

pub returns-clause-ascending : goal.returns-clause-ascending
returns-clause-ascending g c = IsStrictlyIncreasing-positions_between _ _
