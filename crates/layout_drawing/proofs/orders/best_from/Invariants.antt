use Rattle.std.proofs.Common.{◌<◌, length}
use Rattle.layout_drawing.proofs.orders.best_from.Given as goal

abbrev pub invariant-loop-position : goal.invariant-loop-position
invariant-loop-position l = l.best < length l.slots
