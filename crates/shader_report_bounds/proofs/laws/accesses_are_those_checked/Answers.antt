use Rattle.shader_report_bounds.proofs.AccessLemmas.{accesses_are_those_checked}
use Rattle.shader_report_bounds.proofs.laws.accesses_are_those_checked.Goals as goal

pub returns : goal.returns
returns c = accesses_are_those_checked
