use Rattle.std.proofs.Common.{◌∙◌, ap, sym, not}
use Rattle.shader_overloads.specs.Remaining.{is_concrete}
use Rattle.shader_overloads.proofs.list.is_concrete_argument.Goals as goal

pub is_abstract-requires-clause-self_in : goal.is_abstract-requires-clause-self_in
is_abstract-requires-clause-self_in c = c.inner_with.ensures.in_range c.requires.backward c.requires.fits.0

pub returns : goal.returns
returns c = ap not c.is_abstract.ensures ∙ sym (ap (is_concrete c.args.types.now) c.inner_with.ensures.inner)
