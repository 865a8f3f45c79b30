use Rattle.std.proofs.Common.{◌≡◌, length}
use Rattle.shader_uniformity.specs.Cells.{StaysSound}
use Rattle.shader_uniformity.proofs.reach.spread.Given as goal

abbrev pub invariant-loop-index : goal.invariant-loop-index
invariant-loop-index l = record {
  long : length l.table.items ≡ length l.fn.table.items;
  sound : StaysSound l.rules l.fn.table.items l.table.items;
}
