use Rattle.std.proofs.Common.{◌∙◌}
use Rattle.shader_overloads.proofs.TableLemmas.{first_at, none_at}
use Rattle.shader_overloads.proofs.list.first_member.Goals as goal

pub rule_at-requires : goal.rule_at-requires
rule_at-requires c = (first_at c.args.mask c.args.rules.now c.in-Some.number c.requires c.in-Some.ensures.first).0

pub unreachable-requires : goal.unreachable-requires
unreachable-requires c = absurd (c.requires (none_at c.args.mask c.args.rules.now c.in-None.ensures.none))

pub returns : goal.returns
returns c = (first_at c.args.mask c.args.rules.now c.in-Some.number c.requires c.in-Some.ensures.first).1 ∙ c.rule_at.ensures
