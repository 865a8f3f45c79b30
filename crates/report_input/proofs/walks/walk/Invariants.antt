use Rattle.std.proofs.Common.{take}
use Rattle.report_input.specs.Spans.{Leads}
use Rattle.report_input.proofs.walks.walk.Given as goal

abbrev pub invariant-loop-step : goal.invariant-loop-step
invariant-loop-step l = Leads (take l.step-index l.steps) l.fn.reader l.reader
