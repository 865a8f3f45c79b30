use Rattle.std.proofs.Common.{◌≡◌, Some}
use Rattle.report_input.specs.Spans.{behind_members}
use Rattle.report_input.proofs.walks.enter_member.Given as goal

abbrev pub invariant-loop-passed : goal.invariant-loop-passed
invariant-loop-passed l = behind_members l._passed l.fn.reader ≡ Some l.reader
