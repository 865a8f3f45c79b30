use Rattle.shader_type_text.proofs.TypeSpellings.{types_are_spelled}
use Rattle.shader_type_text.proofs.laws.types_are_spelled.Goals as goal

pub returns : goal.returns
returns c = types_are_spelled
