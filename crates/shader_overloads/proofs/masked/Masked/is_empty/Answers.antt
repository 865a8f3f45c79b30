use Rattle.shader_overloads.proofs.TableLemmas.{empty_mask}
use Rattle.shader_overloads.proofs.masked.Masked.is_empty.Goals as goal

pub returns : goal.returns
returns g c = empty_mask c.args.self.now.mask (g.T.Table.table_rules c.args.self.now.table) c.first.result c.is_none.result c.requires
    c.is_none.ensures c.first.ensures.none c.first.ensures.first
