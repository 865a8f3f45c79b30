use Rattle.std.proofs.Common.{◌∙◌}
use Rattle.shader_overloads.proofs.list.List.from_rules.Goals as goal

pub invariant_of-result : goal.invariant_of-result
invariant_of-result c = record { within = c.all.ensures.within }

pub returns : goal.returns
returns c = c.all.ensures.rules ∙ c.in_ok-table.ensures
