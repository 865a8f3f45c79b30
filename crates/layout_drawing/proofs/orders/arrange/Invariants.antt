use Rattle.std.proofs.Common.{◌≡◌, IsPermutation, length}
use Rattle.layout_drawing.proofs.orders.arrange.Given as goal

abbrev pub invariant-loop-position : goal.invariant-loop-position
invariant-loop-position l = IsPermutation l.fn.slots l.slots × (length l.slots ≡ length l.fn.slots)
