use Rattle.shader_uniformity_trace.proofs.WalkLemmas.{Walked, rank}
use Rattle.shader_uniformity_trace.proofs.why.chain_from.Given as goal

abbrev pub invariant-loop-next : goal.invariant-loop-next
invariant-loop-next l = Walked l.reasons l.start l.links.items l.link

abbrev pub decreases-loop-next : goal.decreases-loop-next
decreases-loop-next l = rank l.reasons l.link
