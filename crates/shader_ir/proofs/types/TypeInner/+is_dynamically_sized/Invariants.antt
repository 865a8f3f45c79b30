use Rattle.shader_ir.proofs.ReachLemmas.{reach}
use Rattle.shader_ir.proofs.types.TypeInner.+is_dynamically_sized.Given as goal

abbrev pub decreases-is_dynamically_sized : goal.decreases-is_dynamically_sized
decreases-is_dynamically_sized l = reach l.self.now
