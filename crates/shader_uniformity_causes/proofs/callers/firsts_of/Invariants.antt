use Rattle.std.proofs.Common.{◌≡◌, ◌++◌, drop}
use Rattle.shader_uniformity_causes.specs.Callers.{firsts_of}
use Rattle.shader_uniformity_causes.proofs.callers.firsts_of.Given as goal

abbrev pub invariant-loop-by : goal.invariant-loop-by
invariant-loop-by l = l.firsts.items ++ firsts_of (drop l.by-index l.calls) ≡ firsts_of l.calls
