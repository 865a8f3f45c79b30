use Rattle.std.proofs.Common.{◌≡◌, drop, fold}
use Rattle.shader_ir.specs.BodyOf.{body_of, cases_of}
use Rattle.shader_ir.specs.Occurs.{case_statements, statements}
use Rattle.report_expressions.specs.Makers.{noted, steps_of}
use Rattle.report_expressions.proofs.makers.+noting.Given as goal

abbrev pub invariant-note_block-loop-statement : goal.invariant-note_block-loop-statement
invariant-note_block-loop-statement l =
    fold noted (steps_of l.table.items) (statements (body_of (drop l.statement-index l.statement-items)))
    ≡ fold noted (steps_of l.fn.table.items) (statements l.block)

abbrev pub invariant-note_statement-loop-case : goal.invariant-note_statement-loop-case
invariant-note_statement-loop-case l =
    fold noted (steps_of l.table.items) (case_statements (cases_of (drop l.case-index l.case-items)))
    ≡ fold noted (steps_of l.initial.table.items) (case_statements (cases_of l.case-items))
