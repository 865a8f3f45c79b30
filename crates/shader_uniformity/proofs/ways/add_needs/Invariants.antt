use Rattle.std.proofs.Common.{take}
use Rattle.shader_uniformity.specs.Ways.{Adds}
use Rattle.shader_uniformity.proofs.ways.add_needs.Given as goal

abbrev pub invariant-loop-rule : goal.invariant-loop-rule
invariant-loop-rule l = Adds l.index (take l.rule-index l.rules) l.fn.search l.search
