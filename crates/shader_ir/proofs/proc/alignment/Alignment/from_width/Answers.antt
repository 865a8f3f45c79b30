use Rattle.std.proofs.Common.{arith}
use Rattle.shader_ir.proofs.PowerLemmas.{test_alignment}
use Rattle.shader_ir.proofs.proc.alignment.Alignment.from_width.Goals as goal

pub invariant_of-result : goal.invariant_of-result
invariant_of-result c = test_alignment c.args.width (omega arith) c.requires
