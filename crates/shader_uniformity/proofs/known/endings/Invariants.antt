use Rattle.std.proofs.Common.{◌≡◌, ◌++◌, drop}
use Rattle.shader_uniformity.specs.Fault.{endings, lefts_from}
use Rattle.shader_uniformity.proofs.known.endings.Given as goal

abbrev pub invariant-loop-argument : goal.invariant-loop-argument
invariant-loop-argument l =
    l.facts.items ++ lefts_from l.index (drop l._argument-index l.arguments) ≡ endings l.arguments
