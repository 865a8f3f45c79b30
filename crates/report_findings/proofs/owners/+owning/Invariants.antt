use Rattle.std.proofs.Common.{◌≡◌, drop}
use Rattle.shader_ir.specs.BodyOf.{body_of, cases_of}
use Rattle.shader_uniformity.specs.Positions.{block_end, cases_end}
use Rattle.report_findings.proofs.owners.+owning.Given as goal

abbrev pub invariant-in_block-loop-statement : goal.invariant-in_block-loop-statement
invariant-in_block-loop-statement l =
    block_end l.position (body_of (drop l.statement-index l.statement-items)) ≡ block_end l.start l.block

abbrev pub invariant-in_cases-loop-case : goal.invariant-in_cases-loop-case
invariant-in_cases-loop-case l = cases_end l.start (cases_of (drop l.case-index l.cases)) ≡ cases_end l.first (cases_of l.cases)
