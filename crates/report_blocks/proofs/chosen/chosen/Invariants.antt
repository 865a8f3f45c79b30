use Rattle.std.proofs.Common.{◌≡◌}
use Rattle.report_blocks.specs.Chosen.{chosen_among}
use Rattle.report_blocks.proofs.chosen.chosen.Given as goal

abbrev pub invariant-loop-index : goal.invariant-loop-index
invariant-loop-index l = l.indexes.items ≡ chosen_among l.shows_all l.diagnostics l.index
