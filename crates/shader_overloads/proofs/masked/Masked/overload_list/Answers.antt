use Rattle.std.proofs.Common.{◌∙◌, ◌++◌, ap, append-nil, sym}
use Rattle.shader_overloads.proofs.TableLemmas.{listed_next, none_at, still_inside}
use Rattle.shader_overloads.proofs.masked.Masked.overload_list.Goals as goal

pub loop-number-preserved : goal.loop-number-preserved
loop-number-preserved g c = record {
  listed = listed_next c.args.self.now.mask c.loop-number.left c.take_first.new.self (g.T.Table.table_rules c.args.self.now.table)
      c.loop-number.rules.items _ c.in-Some.number c.in_ok-rule.rule c.in_ok-rule.ensures c.in-Some.ensures.first c.in_ok-push.ensures.items
      c.loop-number.invariant.listed;
  inside = still_inside c.args.self.now.mask c.loop-number.left c.take_first.new.self c.in-Some.number c.loop-number.invariant.inside
      c.in-Some.ensures.first;
}

pub returns : goal.returns
returns g c =
    sym (append-nil c.loop-number.rules.items)
    ∙ sym (ap (λ left. c.loop-number.rules.items ++ left) (none_at c.loop-number.left (g.T.Table.table_rules c.args.self.now.table)
    c.in_default.ensures.none))
    ∙ c.loop-number.invariant.listed
