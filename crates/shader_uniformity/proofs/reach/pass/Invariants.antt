use Rattle.std.proofs.Common.{◌≡◌, drop, false, length}
use Rattle.shader_uniformity.specs.Cells.{changes, cells_after}
use Rattle.shader_uniformity.proofs.reach.pass.Given as goal

abbrev pub invariant-loop-rule : goal.invariant-loop-rule
invariant-loop-rule l = record {
  long : length l.table.items ≡ length l.fn.table.items;
  table : cells_after (drop l.rule-index l.rules) l.table.items ≡ cells_after l.rules l.fn.table.items;
  changes : changes (drop l.rule-index l.rules) l.table.items l.changed ≡ changes l.rules l.fn.table.items false;
}
