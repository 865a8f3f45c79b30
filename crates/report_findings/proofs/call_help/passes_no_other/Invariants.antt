use Rattle.std.proofs.Common.{take}
use Rattle.std.specs.List.{All}
use Rattle.report_findings.specs.Calls.{IsExcused}
use Rattle.report_findings.proofs.call_help.passes_no_other.Given as goal

abbrev pub invariant-loop-pass : goal.invariant-loop-pass
invariant-loop-pass l =
    All (IsExcused l.«module» l.known l.called.violation l.called.call l.caller) (take l.pass-index l.pass-items)
