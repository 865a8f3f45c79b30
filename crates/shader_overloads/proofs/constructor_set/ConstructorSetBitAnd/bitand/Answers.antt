use Rattle.std.proofs.Common.{refl}
use Rattle.shader_overloads.proofs.SetLemmas.{constructors_of_both}
use Rattle.shader_overloads.proofs.constructor_set.ConstructorSetBitAnd.bitand.Goals as goal

pub returns : goal.returns
returns c = constructors_of_both c.args.self c.args.other _ refl
