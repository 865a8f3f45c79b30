use Rattle.std.proofs.Common.{◌≡◌, drop, nat_le}
use Rattle.shader_ir.specs.BodyOf.{body_of, step_of, cases_of}
use Rattle.shader_resolve.specs.Nesting.{depth, step_depth, cases_depth}
use Rattle.shader_resolve.proofs.well_formed.nesting.+nesting.Given as goal

abbrev pub invariant-block_nests_within-loop-statement : goal.invariant-block_nests_within-loop-statement
invariant-block_nests_within-loop-statement l =
    nat_le (depth (body_of (drop l.statement-index l.statement-items))) l.levels ≡ nat_le (depth l.block) l.levels

abbrev pub invariant-statement_nests_within-loop-case : goal.invariant-statement_nests_within-loop-case
invariant-statement_nests_within-loop-case l =
    nat_le (cases_depth (cases_of (drop l.case-index l.case-items))) l.levels ≡ nat_le (step_depth (step_of l.fn.statement)) l.levels
