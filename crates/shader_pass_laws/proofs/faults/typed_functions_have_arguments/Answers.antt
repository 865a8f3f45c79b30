use Rattle.shader_pass_laws.proofs.Arguments.{typed_functions_have_arguments}
use Rattle.shader_pass_laws.proofs.faults.typed_functions_have_arguments.Goals as goal

pub returns : goal.returns
returns c = typed_functions_have_arguments
