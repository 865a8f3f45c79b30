use Rattle.std.proofs.Common.{◌<◌, ◌∙◌, ap, arith, length, not}
use Rattle.report_expressions.proofs.MakerLemmas.{is_noted}
use Rattle.report_expressions.proofs.makers.note_at.Goals as goal

pub returns-then-is_none : goal.returns-then-is_none
returns-then-is_none c =
    let short : c.args.index < length c.args.table.now.items = omega (arith, c.if-index-len.true, c.len.ensures) in
    is_noted c.args.table.now.items c.args.index c.args.maker c.index.result.now short c.index.ensures
    (c.is_none.ensures ∙ ap not c.if-is_none.true)
