use Rattle.std.proofs.Common.{ℕ, ◌<◌}
use Rattle.report_findings.specs.Calls.{PassesNoOther, body_at}
use Rattle.report_findings.proofs.call_help.all_pass_no_other.Given as goal

abbrev pub invariant-loop-index : goal.invariant-loop-index
invariant-loop-index l =
    (i : ℕ) → i < l.index → PassesNoOther l.«module» l.known l.called.violation l.called.call (body_at l.bodies i)
