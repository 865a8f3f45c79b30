use Rattle.std.proofs.Common.{take}
use Rattle.shader_uniformity.specs.Fault.{AreFaulty}
use Rattle.shader_uniformity.proofs.divergence.faulty_points.Given as goal

abbrev pub invariant-loop-point : goal.invariant-loop-point
invariant-loop-point l = AreFaulty l.«module» l.callees (take l.point-index l.points) l.faulty.items
