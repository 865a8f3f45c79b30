use Rattle.shader_ir.proofs.ReachLemmas.{reach}
use Rattle.shader_ir.proofs.types.TypeInner.+is_abstract.Given as goal

abbrev pub decreases-is_abstract : goal.decreases-is_abstract
decreases-is_abstract l = reach l.self.now
