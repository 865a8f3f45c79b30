use Rattle.shader_pass_laws.proofs.Arguments.{typed_arguments_are_within}
use Rattle.shader_pass_laws.proofs.faults.typed_arguments_are_within.Goals as goal

pub returns : goal.returns
returns c = typed_arguments_are_within
