use Rattle.std.specs.Prelude.{codes}
use Rattle.json.specs.Value.{members_view, value_view}
use Rattle.shader_json_declarations.specs.Arenas.{IsArena}
use Rattle.shader_json_expressions.specs.Expressions.{IsExpression}
use Rattle.shader_json_functions.specs.Next.{AreParts}
use Rattle.shader_json_functions.specs.Statements.{IsBlock}
use Rattle.shader_json_functions.proofs.PartsLemmas.{next_function}
use Rattle.shader_json_functions.proofs.functions.FunctionReadNext.read_next.Goals as goal

pub returns : goal.returns
returns c =
    let read = c.in_ok-parts.ensures in
    let declared = c.fill_declarations.new.function in
    let f = record declared { expressions = c.in_ok-parts.parts.first; body = c.in_ok-parts.parts.second.0 } in
    let parts : AreParts (IsArena IsExpression) IsBlock (codes "expressions") (codes "body") c.args.depth c.args.reader.now
    c.read_next.new.reader c.in_ok-parts.parts.first c.in_ok-parts.parts.second.0 (value_view c.in_ok-parts.parts.rest) =
    record { ms = read.ms; next = read.next; has_first = read.has_first; has_second = read.has_second; left = read.left } in
    record {
      next = next_function c.args.depth c.args.reader.now c.read_next.new.reader (value_view c.in_ok-parts.parts.rest)
          (members_view c.in_ok-fields.fields.members.now) f parts c.in_ok-fields.ensures.reads
          c.in_ok-fill_declarations.ensures.reads;
    }
