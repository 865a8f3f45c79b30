use Rattle.shader_ir.proofs.ReachLemmas.{reach}
use Rattle.shader_ir.proofs.types.TypeInner.+needs_host_buffer_byte_size.Given as goal

abbrev pub decreases-needs_host_buffer_byte_size : goal.decreases-needs_host_buffer_byte_size
decreases-needs_host_buffer_byte_size l = reach l.self.now
