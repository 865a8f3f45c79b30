use Rattle.shader_overloads.proofs.TableLemmas.{no_rules}
use Rattle.shader_overloads.proofs.laws.empty_set_has_no_rules.Goals as goal

pub returns : goal.returns
returns c = no_rules _
