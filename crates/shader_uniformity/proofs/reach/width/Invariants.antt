use Rattle.std.proofs.Common.{◌≡◌, drop}
use Rattle.shader_uniformity.specs.Cells.{width, width_from}
use Rattle.shader_uniformity.proofs.reach.width.Given as goal

abbrev pub invariant-loop-rule : goal.invariant-loop-rule
invariant-loop-rule l = width_from l.width (drop l.rule-index l.rules) ≡ width l.start l.rules
