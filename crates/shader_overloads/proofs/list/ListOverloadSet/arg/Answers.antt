use Rattle.std.proofs.Common.{◌∙◌, ap}
use Rattle.std.specs.List.{filter}
use Rattle.shader_overloads.specs.Remaining.{list_accepts}
use Rattle.shader_overloads.proofs.NarrowLemmas.{fewer_fit}
use Rattle.shader_overloads.proofs.list.ListOverloadSet.arg.Goals as goal

pub invariant_of-result : goal.invariant_of-result
invariant_of-result c = record { within = c.in_ok-set.ensures.within }

pub returns-clause-fits : goal.returns-clause-fits
returns-clause-fits c =
    fewer_fit c.args.types.now (list_accepts c.args.types.now c.args.i c.args.ty.now) c.args.self.now _
    (c.in_ok-set.ensures.rules ∙ ap (filter (list_accepts c.args.types.now c.args.i c.args.ty.now)) c.self.view_is) c.requires.fits
