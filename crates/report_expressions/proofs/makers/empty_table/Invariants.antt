use Rattle.std.proofs.Common.{◌≡◌, None, replicate}
use Rattle.report_expressions.specs.Makers.{steps_of}
use Rattle.report_expressions.proofs.makers.empty_table.Given as goal

abbrev pub invariant-loop-position : goal.invariant-loop-position
invariant-loop-position l = steps_of l.table.items ≡ replicate l._position None
