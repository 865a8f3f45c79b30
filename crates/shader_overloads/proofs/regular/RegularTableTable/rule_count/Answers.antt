use Rattle.std.proofs.Common.{sym}
use Rattle.shader_overloads.proofs.RegularLemmas.{length-all_rules}
use Rattle.shader_overloads.proofs.regular.RegularTableTable.rule_count.Goals as goal

pub returns-clause-count : goal.returns-clause-count
returns-clause-count c = sym (length-all_rules c.args.self.now)
