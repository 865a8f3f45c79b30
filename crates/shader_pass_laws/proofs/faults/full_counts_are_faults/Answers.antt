use Rattle.shader_pass_laws.proofs.Counts.{full_counts_are_faults}
use Rattle.shader_pass_laws.proofs.faults.full_counts_are_faults.Goals as goal

pub returns : goal.returns
returns c = full_counts_are_faults
