use Rattle.std.proofs.Common.{◌≡◌, None, replicate}
use Rattle.shader_uniformity.proofs.cells.empty.Given as goal

abbrev pub invariant-loop-place : goal.invariant-loop-place
invariant-loop-place l = l.table.items ≡ replicate l.place None
