use Rattle.std.proofs.Common.{◌≡◌, drop}
use Rattle.shader_ir.specs.BodyOf.{body_of, step_of, cases_of}
use Rattle.shader_resolve.specs.ModuleTests.{check_statement, in_body, in_cases, in_within}
use Rattle.shader_resolve.proofs.well_formed.statements.+blocks.Given as goal

abbrev pub invariant-check_block-loop-statement : goal.invariant-check_block-loop-statement
invariant-check_block-loop-statement l =
    in_body (check_statement l.«module» l.bounds) (body_of (drop l.statement-index l.statement-items))
    ≡ in_body (check_statement l.«module» l.bounds) l.block

abbrev pub invariant-check_blocks-loop-case : goal.invariant-check_blocks-loop-case
invariant-check_blocks-loop-case l =
    in_cases (check_statement l.«module» l.bounds) (cases_of (drop l.case-index l.case-items))
    ≡ in_within (check_statement l.«module» l.bounds) (step_of l.fn.statement)
