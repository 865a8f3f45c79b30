use Rattle.std.proofs.Common.{refl}
use Rattle.shader_overloads.proofs.SetLemmas.{scalars_of_either}
use Rattle.shader_overloads.proofs.scalar_set.ScalarSetBitOr.bitor.Goals as goal

pub returns : goal.returns
returns c = scalars_of_either c.args.self c.args.other _ refl
