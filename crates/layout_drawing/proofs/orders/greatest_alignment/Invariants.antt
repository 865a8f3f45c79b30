use Rattle.std.proofs.Common.{◌≡◌, drop, fold, max}
use Rattle.layout_drawing.specs.Orders.{greatest_alignment}
use Rattle.layout_drawing.specs.declared.pieces.Slot.{Slot}
use Rattle.layout_drawing.proofs.orders.greatest_alignment.Given as goal

abbrev pub invariant-loop-slot : goal.invariant-loop-slot
invariant-loop-slot l =
    fold (λ greatest (slot : Slot). max greatest slot.alignment) l.greatest (drop l.slot-index l.slots) ≡ greatest_alignment l.slots
