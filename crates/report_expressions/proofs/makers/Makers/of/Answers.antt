use Rattle.std.proofs.Common.{◌∙◌, None, ap, replicate}
use Rattle.report_expressions.proofs.MakerLemmas.{makers_are_first}
use Rattle.report_expressions.proofs.makers.Makers.of.Goals as goal

pub returns : goal.returns
returns c =
    makers_are_first c.args.function.now c.in_ok-statements.statements.items c.note_block.new.table.items
    (c.in_ok-statements.ensures ∙ ap (λ n. replicate n None) c.len.ensures.len) c.note_block.ensures
