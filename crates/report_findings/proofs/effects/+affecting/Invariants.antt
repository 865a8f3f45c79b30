use Rattle.std.proofs.Common.{◌≡◌, drop}
use Rattle.shader_ir.specs.BodyOf.{body_of, cases_of}
use Rattle.report_findings.specs.Effects.{are_quiet_cases, is_quiet_block}
use Rattle.report_findings.proofs.effects.+affecting.Given as goal

abbrev pub invariant-are_quiet_cases-loop-case : goal.invariant-are_quiet_cases-loop-case
invariant-are_quiet_cases-loop-case l =
    are_quiet_cases l.places l.quiet (cases_of (drop l.case-index l.cases)) ≡ are_quiet_cases l.places l.quiet (cases_of l.cases)

abbrev pub invariant-is_quiet_block-loop-statement : goal.invariant-is_quiet_block-loop-statement
invariant-is_quiet_block-loop-statement l =
    is_quiet_block l.places l.quiet (body_of (drop l.statement-index l.statement-items)) ≡ is_quiet_block l.places l.quiet l.block
