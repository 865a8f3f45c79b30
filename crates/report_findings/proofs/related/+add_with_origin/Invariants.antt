use Rattle.report_findings.proofs.related.+add_with_origin.Given as goal

abbrev pub decreases-add_with_origin : goal.decreases-add_with_origin
decreases-add_with_origin l = l.calls
