use Rattle.std.proofs.Common.{◌≡◌, ◌++◌, drop}
use Rattle.shader_uniformity.specs.Differs.{pointees_from}
use Rattle.shader_uniformity.proofs.known.add_pointees.Given as goal

abbrev pub invariant-loop-argument : goal.invariant-loop-argument
invariant-loop-argument l =
    l.rules.items ++ pointees_from l.index (drop l._argument-index l.arguments) ≡ l.fn.rules.items ++ pointees_from 0 l.arguments
