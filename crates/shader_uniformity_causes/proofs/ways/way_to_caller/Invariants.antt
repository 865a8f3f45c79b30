use Rattle.std.proofs.Common.{take}
use Rattle.std.specs.List.{Contains}
use Rattle.shader_uniformity.specs.Marks.{Marked}
use Rattle.shader_uniformity_causes.specs.declared.causes.PassedBy.{PassedBy}
use Rattle.shader_uniformity_causes.proofs.ways.way_to_caller.Given as goal

abbrev pub invariant-loop-by : goal.invariant-loop-by
invariant-loop-by l =
    (by : PassedBy) → Contains (take l.by-index l.calls) by → Marked l.rules by.pass.beginning l.fact → ⊥
