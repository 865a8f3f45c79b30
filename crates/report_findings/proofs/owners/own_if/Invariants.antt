use Rattle.std.proofs.Common.{drop}
use Rattle.report_findings.proofs.OwnerLemmas.{AreWays}
use Rattle.report_findings.proofs.owners.own_if.Given as goal

abbrev pub invariant-loop-number : goal.invariant-loop-number
invariant-loop-number l = AreWays l.body l.number l.begin (drop l.number l.statement-items)
