use Rattle.std.proofs.Common.{List, subst, sym}
use Rattle.shader_ir.specs.BodyOf.{step_of}
use Rattle.shader_ir.specs.declared.statement.Statement.{Statement}
use Rattle.shader_json_functions.specs.Next.{IsNext}
use Rattle.shader_json_functions.specs.Statements.{IsStatement}
use Rattle.shader_json_functions.proofs.StatementLemmas.{next_block}
use Rattle.shader_json_functions.proofs.statements.BodyReadNext.read_next.Goals as goal
use Rattle.shader_json_reader.specs.Shapes.{IsList}

pub returns : goal.returns
returns c =
    let items = subst (λ (xs : List Statement). IsNext (IsList (λ j statement. IsStatement j (step_of statement))) c.args.depth
    c.args.reader.now c.read_next.new.reader xs) (sym c.into_vec-statements.ensures) c.in_ok-items.ensures.next in
    let block = next_block c.args.depth c.args.reader.now c.read_next.new.reader c.into_vec-statements.result.items items in
    record { next = record { j = block.j; next = block.next; stands = block.stands } }
