use Rattle.shader_ir.specs.Conversion.{scalar_converts-named}
use Rattle.shader_ir.proofs.laws.conversions_are_listed.Goals as goal

pub returns : goal.returns
returns c = scalar_converts-named
