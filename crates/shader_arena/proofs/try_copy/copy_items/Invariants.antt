use Rattle.std.proofs.Common.{◌≡◌, take}
use Rattle.shader_arena.proofs.try_copy.copy_items.Given as goal

abbrev pub invariant-loop-item : goal.invariant-loop-item
invariant-loop-item g l = l.copy.items ≡ take l.item-index l.items
