use Rattle.std.proofs.Common.{refl}
use Rattle.shader_overloads.proofs.SetLemmas.{constructors_of_either}
use Rattle.shader_overloads.proofs.constructor_set.ConstructorSetBitOr.bitor.Goals as goal

pub returns : goal.returns
returns c = constructors_of_either c.args.self c.args.other _ refl
