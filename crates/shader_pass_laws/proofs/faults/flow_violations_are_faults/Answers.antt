use Rattle.shader_pass_laws.proofs.FlowViolation.{flow_violations_are_faults}
use Rattle.shader_pass_laws.proofs.faults.flow_violations_are_faults.Goals as goal

pub returns : goal.returns
returns c = flow_violations_are_faults
