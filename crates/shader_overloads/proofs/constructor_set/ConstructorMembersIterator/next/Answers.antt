-- One step removes the lowest set bit.
use Rattle.std.proofs.Common.{ap, arith, rules, length, sym, ◌∙◌, ◌∷◌, [], map}
use Rattle.std.proofs.lemmas.Bool.{both_ways}
use Rattle.shader_overloads.specs.Constructors.{all_constructors}
use Rattle.shader_overloads.specs.declared.constructor_set.ConstructorSize.TheVariants as sizes
use Rattle.shader_overloads.proofs.BitLemmas.{members_step, some_bit, split}
use Rattle.shader_overloads.proofs.constructor_set.ConstructorMembersIterator.next.Goals as goal

pub overflow_sub-below : goal.overflow_sub-below
overflow_sub-below c = some_bit c.self.inside.left.0 all_constructors (λ e. both_ways _ c.if-is_empty.false (c.is_empty.ensures.1 e))

pub returns-clause-steps : goal.returns-clause-steps
returns-clause-steps c =
    ap (map (λ x. x ∷ [])) (sym c.self.view_is)
    ∙ members_step c.self.inside.left.0 all_constructors sizes.Scalar (omega arith)
    (λ e. both_ways _ c.if-is_empty.false (c.is_empty.ensures.1 e))

pub returns-clause-goes : goal.returns-clause-goes
returns-clause-goes c =
    let step = split c.self.inside.left.0 all_constructors sizes.Scalar (omega arith)
    (λ e. both_ways _ c.if-is_empty.false (c.is_empty.ensures.1 e)) in
    let fewer = ap length (sym c.self.view_is ∙ step.whole) in
    search (rules, arith)
