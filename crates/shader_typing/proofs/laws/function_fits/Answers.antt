use Rattle.shader_typing.proofs.Fitting.{function_fits}
use Rattle.shader_typing.proofs.laws.function_fits.Goals as goal

pub returns : goal.returns
returns c = function_fits
