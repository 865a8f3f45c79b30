use Rattle.shader_uniformity_causes.proofs.ChainLemmas.{IsOnWay}
use Rattle.shader_uniformity_causes.proofs.chains.causes_of.Given as goal

abbrev pub invariant-loop : goal.invariant-loop
invariant-loop l = IsOnWay l.«module» l.known l.fn.place l.fact l.chain.items l.body l.needed
