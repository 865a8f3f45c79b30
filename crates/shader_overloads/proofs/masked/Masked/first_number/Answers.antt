use Rattle.shader_overloads.proofs.TableLemmas.{first_at, none_at}
use Rattle.shader_overloads.proofs.masked.Masked.first_number.Goals as goal

pub unreachable-requires : goal.unreachable-requires
unreachable-requires g c =
    absurd (c.requires (none_at c.args.self.now.mask (g.T.Table.table_rules c.args.self.now.table) c.in-None.ensures.none))

pub returns-clause-within : goal.returns-clause-within
returns-clause-within g c = (first_at c.args.self.now.mask (g.T.Table.table_rules c.args.self.now.table) c.in-Some.number c.requires
    c.in-Some.ensures.first).0

pub returns-clause-first : goal.returns-clause-first
returns-clause-first g c = (first_at c.args.self.now.mask (g.T.Table.table_rules c.args.self.now.table) c.in-Some.number c.requires
    c.in-Some.ensures.first).1
