use Rattle.std.proofs.Common.{◌∙◌, ap, sym}
use Rattle.shader_overloads.specs.Masks.{rules_at}
use Rattle.shader_overloads.proofs.masked.Masked.arg.Goals as goal

pub returns-clause-rules : goal.returns-clause-rules
returns-clause-rules g c = ap (rules_at c.accepted-mask.result) c.in_ok-table.ensures.table_rules ∙ c.accepted-mask.ensures.rules

pub returns-clause-within : goal.returns-clause-within
returns-clause-within g c k past = c.accepted-mask.ensures.within k (rw (sym c.in_ok-table.ensures.table_rules) past)
