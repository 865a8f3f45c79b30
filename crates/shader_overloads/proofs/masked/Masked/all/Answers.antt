use Rattle.std.proofs.Common.{◌∙◌, arith}
use Rattle.std.proofs.lemmas.Bool.{le-ltb, lt-ltb}
use Rattle.shader_overloads.specs.Masks.{has_position}
use Rattle.shader_overloads.proofs.ListLemmas.{items_where-all}
use Rattle.shader_overloads.proofs.masked.Masked.all.Goals as goal

pub returns-clause-rules : goal.returns-clause-rules
returns-clause-rules g c =
    items_where-all (has_position c.below-mask.result) (g.T.Table.table_rules c.args.table) (λ i h. c.below-mask.ensures i
    ∙ lt-ltb i c.rule_count.result (omega (arith, h, c.rule_count.ensures.count)))

pub returns-clause-within : goal.returns-clause-within
returns-clause-within g c k past = c.below-mask.ensures k ∙ le-ltb k c.rule_count.result (omega (arith, past, c.rule_count.ensures.count))
