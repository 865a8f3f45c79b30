use Rattle.shader_overloads_laws.proofs.Ties as ties
use Rattle.shader_overloads_laws.proofs.equally_ranked_rules_are_equal.Goals as goal

pub returns : goal.returns
returns c = ties.equally_ranked_rules_are_equal
