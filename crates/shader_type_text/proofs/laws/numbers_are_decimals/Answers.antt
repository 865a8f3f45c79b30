use Rattle.std.proofs.Common.{◌∙◌, ap}
use Rattle.shader_type_text.specs.Numbers.{number_of_word}
use Rattle.shader_type_text.proofs.Decimals.{number_is, number_named}
use Rattle.shader_type_text.proofs.laws.numbers_are_decimals.Goals as goal

pub returns : goal.returns
returns c = λ word n. (number_is word n, λ same small. ap number_of_word same ∙ number_named n small)
