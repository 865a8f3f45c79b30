use Rattle.std.proofs.Common.{◌≡◌, take}
use Rattle.shader_ir.specs.BodyOf.{body_of}
use Rattle.shader_ir.proofs.statement.+copy.Given as goal

abbrev pub invariant-Block::copy-loop-statement : goal.invariant-Block::copy-loop-statement
invariant-Block::copy-loop-statement l = body_of l.statements.items ≡ body_of (take l.statement-index l.statement-items)

abbrev pub invariant-Statement::copy-loop-case : goal.invariant-Statement::copy-loop-case
invariant-Statement::copy-loop-case l = l.copies.items ≡ take l.case-index l.case-items
