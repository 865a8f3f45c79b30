use Rattle.std.proofs.Common.{refl}
use Rattle.shader_overloads.proofs.SetLemmas.{scalars_of_both}
use Rattle.shader_overloads.proofs.scalar_set.ScalarSetBitAnd.bitand.Goals as goal

pub returns : goal.returns
returns c = scalars_of_both c.args.self c.args.other _ refl
