use Rattle.report_expressions.proofs.operands.+nth.Given as goal

abbrev pub decreases-nth : goal.decreases-nth
decreases-nth l = l.position
