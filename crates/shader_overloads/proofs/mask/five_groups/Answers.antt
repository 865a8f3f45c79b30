use Rattle.shader_overloads.proofs.DigitLemmas.{product-below, product-bit}
use Rattle.shader_overloads.proofs.mask.five_groups.Goals as goal

pub returns-clause-pairs : goal.returns-clause-pairs
returns-clause-pairs c = product-bit c.args.groups c.args.members c.requires.groups c.requires.members

pub returns-clause-within : goal.returns-clause-within
returns-clause-within c = product-below c.args.groups c.args.members c.requires.groups c.requires.members
