use Rattle.shader_bounds.proofs.ChainLemmas.{Leads, height}
use Rattle.shader_bounds.specs.Typed.{Records}
use Rattle.shader_bounds.proofs.chains.chain_needs_check.Given as goal

abbrev pub invariant-loop-next : goal.invariant-loop-next
invariant-loop-next l = Leads l.module l.function (Records l.info) l.fn.chain l.next

abbrev pub decreases-loop-next : goal.decreases-loop-next
decreases-loop-next l = height l.next
