use Rattle.std.proofs.Common.{◌≡◌, length}
use Rattle.shader_uniformity.specs.Cells.{width, IsSound}
use Rattle.shader_uniformity.proofs.reach.reach.Given as goal

abbrev pub invariant-loop : goal.invariant-loop
invariant-loop l = record {
  long : length l.table.items ≡ width l.start l.rules;
  sound : IsSound l.rules l.start l.table.items;
}
