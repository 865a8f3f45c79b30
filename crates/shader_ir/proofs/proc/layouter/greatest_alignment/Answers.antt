use Rattle.std.proofs.Common.{arith, refl}
use Rattle.shader_ir.proofs.LayoutLemmas.{greatest_stored_positive}
use Rattle.shader_ir.proofs.proc.layouter.greatest_alignment.Goals as goal

pub loop-index-init : goal.loop-index-init
loop-index-init c = (omega arith, omega (arith, greatest_stored_positive c.args.layouts.now c.args.members.now), refl)
