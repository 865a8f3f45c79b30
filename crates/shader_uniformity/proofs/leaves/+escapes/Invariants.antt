use Rattle.std.proofs.Common.{◌≡◌, drop}
use Rattle.shader_ir.specs.BodyOf.{body_of, cases_of}
use Rattle.shader_uniformity.specs.Leaves.{block_escapes, cases_escape}
use Rattle.shader_uniformity.proofs.leaves.+escapes.Given as goal

abbrev pub invariant-block_escapes-loop-statement : goal.invariant-block_escapes-loop-statement
invariant-block_escapes-loop-statement l =
    block_escapes l.continues (body_of (drop l.statement-index l.statement-items)) ≡ block_escapes l.continues l.block

abbrev pub invariant-cases_escape-loop-case : goal.invariant-cases_escape-loop-case
invariant-cases_escape-loop-case l =
    cases_escape l.continues (cases_of (drop l.case-index l.cases)) ≡ cases_escape l.continues (cases_of l.cases)
