use Rattle.std.proofs.Common.{◌≡◌, ◌++◌, drop}
use Rattle.shader_uniformity_causes.specs.Chains.{causes_at}
use Rattle.shader_uniformity_causes.proofs.chains.add_causes.Given as goal

abbrev pub invariant-loop-rule : goal.invariant-loop-rule
invariant-loop-rule l =
    l.chain.items ++ causes_at l.place (drop l.rule-index l.trace) ≡ l.fn.chain.items ++ causes_at l.place l.trace
