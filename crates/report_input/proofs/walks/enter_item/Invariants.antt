use Rattle.std.proofs.Common.{◌≡◌, Some}
use Rattle.report_input.specs.Spans.{behind_items}
use Rattle.report_input.proofs.walks.enter_item.Given as goal

abbrev pub invariant-loop-passed : goal.invariant-loop-passed
invariant-loop-passed l = behind_items l._passed l.fn.reader ≡ Some l.reader
