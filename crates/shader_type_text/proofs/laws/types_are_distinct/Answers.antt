use Rattle.shader_type_text.proofs.TypeSpellings.{types_are_distinct}
use Rattle.shader_type_text.proofs.laws.types_are_distinct.Goals as goal

pub returns : goal.returns
returns c = types_are_distinct
