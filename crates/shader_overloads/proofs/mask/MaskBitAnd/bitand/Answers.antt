use Rattle.shader_overloads.proofs.PositionLemmas.{position_of_both}
use Rattle.shader_overloads.proofs.mask.MaskBitAnd.bitand.Goals as goal

pub returns : goal.returns
returns c k = position_of_both c.args.self c.args.other k
