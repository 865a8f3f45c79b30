use Rattle.std.proofs.Common.{refl, subst, sym}
use Rattle.std.proofs.lemmas.Option.{slice_get-get_or}
use Rattle.layout_drawing.proofs.CutLemmas.{all_tiled, one_more}
use Rattle.layout_drawing.specs.Pieces.{AreTiles}
use Rattle.layout_drawing.proofs.pieces.pieces_of.Goals as goal

pub loop-slot-preserved : goal.loop-slot-preserved
loop-slot-preserved c =
    let within = c.in-Some.ensures.found.0 refl in
    one_more c.args.span c.args.slots.now c.loop-slot.slot-index c.loop-slot.at c.loop-slot.pieces.items c.loop-slot.invariant _
    (slice_get-get_or c.args.slots.now c.loop-slot.slot-index _ c.loop-slot-test.true) within.0 within.1 c.in-Some.end c.in-Some.ensures.end
    c.add_member.new.pieces.items c.in_ok-add_member-in-Some.ensures

pub returns-clause-tiled : goal.returns-clause-tiled
returns-clause-tiled c =
    subst (AreTiles c.args.span 0) (sym c.in_ok-add_hole.ensures)
    (all_tiled c.args.span c.args.slots.now c.loop-slot.slot-index c.loop-slot.at c.loop-slot.pieces.items c.loop-slot.invariant)
