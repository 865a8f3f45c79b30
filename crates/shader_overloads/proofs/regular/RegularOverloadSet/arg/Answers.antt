use Rattle.shader_overloads.proofs.RegularLemmas.{masked_rules-fit, regular_high, regular_within}
use Rattle.shader_overloads.proofs.regular.RegularOverloadSet.arg.Goals as goal

pub arg-requires-clause-within : goal.arg-requires-clause-within
arg-requires-clause-within c = regular_within c.self.inside.set.table c.self.inside.set.mask c.self.invariant.last

pub invariant_of-result : goal.invariant_of-result
invariant_of-result c = record { last = regular_high c.in_ok-set.set.table c.in_ok-set.set.mask c.in_ok-set.ensures.within }

pub returns-clause-fits : goal.returns-clause-fits
returns-clause-fits c = masked_rules-fit c.args.types.now c.in_ok-set.set.table c.in_ok-set.set.mask
