use Rattle.std.proofs.Common.{◌∙◌, ap, nat_lt}
use Rattle.shader_overloads.proofs.PositionLemmas.{positions_below}
use Rattle.shader_overloads.proofs.mask.Mask.below.Goals as goal

pub returns : goal.returns
returns c k =
    positions_below (record { low = c.ones.result; middle = c.ones-2.result; high = c.ones-3.result }) c.args.count k c.requires
    c.ones.ensures.below
    (λ i h. c.ones-2.ensures.below i h ∙ ap (nat_lt i) c.saturating_sub.ensures)
    (λ i h. c.ones-3.ensures.below i h ∙ ap (nat_lt i) c.saturating_sub-2.ensures)
    c.ones-3.ensures.above
