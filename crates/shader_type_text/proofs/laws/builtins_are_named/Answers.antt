use Rattle.std.proofs.Common.{◌∙◌, ap}
use Rattle.shader_type_text.specs.Builtins.{builtin_of}
use Rattle.shader_type_text.proofs.BuiltinFacts.{builtin_facts, name_is}
use Rattle.shader_type_text.proofs.laws.builtins_are_named.Goals as goal

pub returns : goal.returns
returns c = λ word function. (name_is word function, λ same. ap builtin_of same ∙ (builtin_facts function).0)
