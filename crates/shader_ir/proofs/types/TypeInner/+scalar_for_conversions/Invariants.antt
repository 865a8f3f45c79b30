use Rattle.shader_ir.proofs.ReachLemmas.{reach}
use Rattle.shader_ir.proofs.types.TypeInner.+scalar_for_conversions.Given as goal

abbrev pub decreases-scalar_for_conversions : goal.decreases-scalar_for_conversions
decreases-scalar_for_conversions l = reach l.self.now
