use Rattle.shader_typing.proofs.LayingOut.{faultless_types_are_laid_out}
use Rattle.shader_typing.proofs.laws.faultless_types_are_laid_out.Goals as goal

pub returns : goal.returns
returns c = faultless_types_are_laid_out
