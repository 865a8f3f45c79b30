use Rattle.shader_pass_laws.proofs.MissingResources.{missing_resources_are_faults}
use Rattle.shader_pass_laws.proofs.faults.missing_resources_are_faults.Goals as goal

pub returns : goal.returns
returns c = missing_resources_are_faults
