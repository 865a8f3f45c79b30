use Rattle.report_input.specs.Located.{AreLocated}
use Rattle.report_input.proofs.module_places.located.Given as goal

abbrev pub invariant-loop-diagnostic : goal.invariant-loop-diagnostic
invariant-loop-diagnostic l = AreLocated l.input l.yielded l.all.items
