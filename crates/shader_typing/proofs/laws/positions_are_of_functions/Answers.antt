use Rattle.shader_typing.proofs.Fitting.{positions_are_of_functions}
use Rattle.shader_typing.proofs.laws.positions_are_of_functions.Goals as goal

pub returns : goal.returns
returns c = positions_are_of_functions
