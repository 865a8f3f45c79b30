use Rattle.std.proofs.Common.{◌≡◌, ◌++◌, drop}
use Rattle.shader_uniformity.specs.Fault.{arguments_from, beginnings}
use Rattle.shader_uniformity.proofs.known.beginnings.Given as goal

abbrev pub invariant-loop-argument : goal.invariant-loop-argument
invariant-loop-argument l =
    l.facts.items ++ arguments_from l.index (drop l._argument-index l.arguments) ≡ beginnings l.arguments
