use Rattle.std.proofs.Common.{rules, ◌≡◌, [], ◌∷◌}
use Rattle.shader_typing.specs.AnySet.{rules_in}
use Rattle.shader_uses.proofs.Maxima.{concluded, max_left, max_of_u32}
use Rattle.shader_uses.proofs.overloads.max_of_u32_and_literal.Goals as goal

pub arg-requires-clause-fits : goal.arg-requires-clause-fits
arg-requires-clause-fits c = c.in_ok-set.ensures.fits c.new-types.result

pub unreachable-requires : goal.unreachable-requires
unreachable-requires c =
    let left : rules_in c.in_ok-set-3.set ≡ max_of_u32 ∷ [] = max_left c.new-types.result _ _ _ _ _ c.in_ok-set.ensures.kind
    c.in_ok-set-2.ensures.kind c.in_ok-set.ensures.rules c.in_ok-set-2.ensures.rules c.in_ok-set-3.ensures.rules in
    let none : rules_in c.in_ok-set-3.set ≡ [] = search rules in
    absurd (cc)

pub returns : goal.returns
returns c =
    concluded _ _ (max_left c.new-types.result _ _ _ _ _ c.in_ok-set.ensures.kind
    c.in_ok-set-2.ensures.kind c.in_ok-set.ensures.rules c.in_ok-set-2.ensures.rules c.in_ok-set-3.ensures.rules) c.in_ok-rule.ensures
