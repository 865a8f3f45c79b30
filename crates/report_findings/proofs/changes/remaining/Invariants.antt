use Rattle.std.proofs.Common.{◌≡◌, take}
use Rattle.report_findings.specs.Changes.{remaining}
use Rattle.report_findings.proofs.changes.remaining.Given as goal

abbrev pub invariant-loop-rule : goal.invariant-loop-rule
invariant-loop-rule l = l.left.items ≡ remaining l.change (take l.rule-index l.rules)
