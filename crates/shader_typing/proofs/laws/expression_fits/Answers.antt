use Rattle.shader_typing.proofs.Fitting.{expression_fits}
use Rattle.shader_typing.proofs.laws.expression_fits.Goals as goal

pub returns : goal.returns
returns c = expression_fits
