use Rattle.std.proofs.Common.{◌∙◌, ap, [], ◌∷◌, ◌++◌, None}
use Rattle.report_places.specs.Outlines.{ways_in_block, ways_of}
use Rattle.report_places.proofs.OutlineLemmas.{outlined}
use Rattle.report_places.proofs.outline.Outline.of.Goals as goal

pub returns : goal.returns
returns c =
    outlined c.args.body.now c.add_block.new.rows.items
    (c.in_ok-add_block.ensures
    ∙ ap (λ ways. ways ++ ways_in_block [] 0 c.args.body.now)
    (c.in_ok-add_position.ensures ∙ ap (λ rows. ways_of rows ++ (None ∷ [])) c.new-rows.ensures.items))
