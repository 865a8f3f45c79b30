use Rattle.std.proofs.Common.{◌∙◌, ap, sym}
use Rattle.shader_resolve.proofs.RangeLemmas.{last_below, positions_below}
use Rattle.shader_resolve.proofs.well_formed.statements.range_below.Goals as goal

pub returns-in-Some : goal.returns-in-Some
returns-in-Some c =
    let range = c.args.range.now in
    c.is_below.ensures ∙ sym (positions_below c.args.bound range.0 range.1 ∙ ap (last_below c.args.bound) (sym c.in-Some.ensures))
