use Rattle.std.proofs.Common.{arith}
use Rattle.std.proofs.lemmas.Bool.{both_ways}
use Rattle.shader_overloads.specs.Constructors.{all_constructors}
use Rattle.shader_overloads.specs.declared.constructor_set.ConstructorSize.TheVariants as sizes
use Rattle.shader_overloads.proofs.BitLemmas.{split, single}
use Rattle.shader_overloads.proofs.constructor_set.ConstructorSet.is_singleton.Goals as goal

pub returns-then-not-is_empty : goal.returns-then-not-is_empty
returns-then-not-is_empty c =
    let one = single (split c.args.self.0 all_constructors sizes.Scalar (omega arith)
    (λ e. both_ways _ c.if-not-is_empty.true (c.is_empty.ensures.1 e))) in
    (λ alone. one.0 (c.is_empty-then-not-is_empty.ensures.0 alone), λ count. c.is_empty-then-not-is_empty.ensures.1 (one.1 count))
