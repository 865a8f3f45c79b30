use Rattle.std.proofs.Common.{◌∙◌, ap}
use Rattle.std.specs.Option.{is_some}
use Rattle.std.proofs.lemmas.Bool.{both_ways}
use Rattle.shader_overloads.proofs.TakesLemmas.{takes_same, takes_converted}
use Rattle.shader_overloads.proofs.list.takes.Goals as goal

pub non_struct_equivalent-requires-clause-rhs_in : goal.non_struct_equivalent-requires-clause-rhs_in
non_struct_equivalent-requires-clause-rhs_in c = c.inner_with-goal.ensures.in_range c.requires.backward c.requires.fits.0

pub automatically_converts_to-requires-clause-goal_in : goal.automatically_converts_to-requires-clause-goal_in
automatically_converts_to-requires-clause-goal_in c = c.inner_with-goal.ensures.in_range c.requires.backward c.requires.fits.0

pub returns-then-non_struct_equivalent : goal.returns-then-non_struct_equivalent
returns-then-non_struct_equivalent c =
    c.if-non_struct_equivalent.true
    ∙ takes_same c.args.types.now c.args.ty.now c.args.argument.now c.inner_with-goal.result.now c.inner_with-goal.ensures.inner
    (c.non_struct_equivalent.ensures.0 c.if-non_struct_equivalent.true)

pub returns-else-non_struct_equivalent : goal.returns-else-non_struct_equivalent
returns-else-non_struct_equivalent c =
    c.is_some.ensures ∙ ap is_some c.automatically_converts_to.ensures
    ∙ takes_converted c.args.types.now c.args.ty.now c.args.argument.now c.inner_with-goal.result.now c.inner_with-goal.ensures.inner
    (λ same. both_ways _ c.if-non_struct_equivalent.false (c.non_struct_equivalent.ensures.1 same))
