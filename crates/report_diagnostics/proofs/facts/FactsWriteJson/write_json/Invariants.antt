use Rattle.std.proofs.Common.{drop, flat_map}
use Rattle.report_json.specs.Tokens.{Leads}
use Rattle.report_diagnostics.specs.Facts.{fact_members}
use Rattle.report_diagnostics.proofs.facts.FactsWriteJson.write_json.Given as goal

abbrev pub invariant-loop-fact : goal.invariant-loop-fact
invariant-loop-fact l =
    Leads l.initial.writer l.writer (flat_map fact_members (drop l.fact-index l.fact-items)) (flat_map fact_members l.fact-items)
