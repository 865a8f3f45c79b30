use Rattle.std.proofs.Common.{◌∙◌, ap}
use Rattle.std.specs.List.{filter}
use Rattle.shader_overloads.specs.Remaining.{has_concrete_arguments}
use Rattle.shader_overloads.proofs.NarrowLemmas.{fewer_fit}
use Rattle.shader_overloads.proofs.list.ListOverloadSet.concrete_only.Goals as goal

pub invariant_of-result : goal.invariant_of-result
invariant_of-result c = record { within = c.concrete_only-set.ensures.within }

pub returns-clause-fits : goal.returns-clause-fits
returns-clause-fits c =
    fewer_fit c.args.types.now (has_concrete_arguments c.args.types.now) c.args.self _
    (c.concrete_only-set.ensures.rules ∙ ap (filter (has_concrete_arguments c.args.types.now)) c.self.view_is) c.requires.fits
