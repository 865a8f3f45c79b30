use Rattle.std.proofs.Common.{◌≡◌, ◌++◌, drop}
use Rattle.shader_ir.specs.Occurs.{statements, statements_within, case_statements}
use Rattle.shader_ir.specs.BodyOf.{body_of, step_of, cases_of}
use Rattle.shader_passes.specs.StatementLists.{steps_of}
use Rattle.shader_passes.proofs.flatten.+flatten.Given as goal

abbrev pub invariant-flatten_block-loop-statement : goal.invariant-flatten_block-loop-statement
invariant-flatten_block-loop-statement l =
    steps_of l.all.items ++ statements (body_of (drop l.statement-index l.statement-items)) ≡ steps_of l.fn.all.items ++ statements l.block

abbrev pub invariant-flatten_within-loop-case : goal.invariant-flatten_within-loop-case
invariant-flatten_within-loop-case l =
    steps_of l.all.items ++ case_statements (cases_of (drop l.case-index l.case-items)) ≡ steps_of l.fn.all.items
    ++ statements_within (step_of l.fn.statement)
