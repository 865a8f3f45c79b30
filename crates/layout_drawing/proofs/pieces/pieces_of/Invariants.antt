use Rattle.layout_drawing.proofs.CutLemmas.{IsCut}
use Rattle.layout_drawing.proofs.pieces.pieces_of.Given as goal

abbrev pub invariant-loop-slot : goal.invariant-loop-slot
invariant-loop-slot l = IsCut l.span l.slots l.slot-index l.at l.pieces.items
