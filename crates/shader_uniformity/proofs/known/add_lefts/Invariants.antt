use Rattle.std.proofs.Common.{◌≡◌, ◌++◌, drop}
use Rattle.shader_uniformity.specs.Fault.{left_from}
use Rattle.shader_uniformity.proofs.known.add_lefts.Given as goal

abbrev pub invariant-loop-argument : goal.invariant-loop-argument
invariant-loop-argument l =
    l.rules.items ++ left_from l.moment l.index (drop l._argument-index l.arguments)
    ≡ l.fn.rules.items ++ left_from l.moment 0 l.arguments
