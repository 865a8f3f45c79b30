use Rattle.shader_overloads.proofs.RegularLemmas.{masked_rules-fit, regular_high, regular_within}
use Rattle.shader_overloads.proofs.regular.RegularOverloadSet.concrete_only.Goals as goal

pub concrete_only-set-requires-clause-within : goal.concrete_only-set-requires-clause-within
concrete_only-set-requires-clause-within c = regular_within c.self.inside.set.table c.self.inside.set.mask c.self.invariant.last

pub invariant_of-result : goal.invariant_of-result
invariant_of-result c = record {
  last = regular_high c.concrete_only-set.result.table c.concrete_only-set.result.mask
      c.concrete_only-set.ensures.within;
}

pub returns-clause-fits : goal.returns-clause-fits
returns-clause-fits c = masked_rules-fit c.args.types.now c.concrete_only-set.result.table c.concrete_only-set.result.mask
