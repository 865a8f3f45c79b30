use Rattle.std.proofs.Common.{◌∙◌, refl}
use Rattle.std.proofs.lemmas.List.Sorted.{IsPermutation-refl, IsPermutation-trans}
use Rattle.layout_drawing.proofs.orders.arrange.Goals as goal

pub loop-position-init : goal.loop-position-init
loop-position-init c = (IsPermutation-refl c.args.slots.now, refl)

pub loop-position-preserved : goal.loop-position-preserved
loop-position-preserved c =
    let inv = c.loop-position.invariant in (
      IsPermutation-trans c.args.slots.now c.loop-position.slots c.swap.new.self inv.0 c.swap.ensures.permutation,
      c.swap.ensures.len ∙ inv.1,
    )
