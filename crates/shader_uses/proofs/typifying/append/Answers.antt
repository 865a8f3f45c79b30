use Rattle.shader_typing.specs.Grown.{stays}
use Rattle.shader_uses.proofs.typifying.append.Goals as goal

pub returns-in-Err-clause-grown : goal.returns-in-Err-clause-grown
returns-in-Err-clause-grown c = stays
