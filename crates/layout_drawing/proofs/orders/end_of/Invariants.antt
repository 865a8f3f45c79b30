use Rattle.std.proofs.Common.{◌≡◌, drop, fold}
use Rattle.layout_drawing.specs.Orders.{end_after}
use Rattle.layout_drawing.proofs.orders.end_of.Given as goal

abbrev pub invariant-loop-slot : goal.invariant-loop-slot
invariant-loop-slot l = fold end_after l.end (drop l.slot-index l.slots) ≡ fold end_after 0 l.slots
