use Rattle.std.proofs.Common.{◌∙◌, ◌<◌, ◌%◌, ap, arith}
use Rattle.shader_overloads.specs.Bits.{has_bit}
use Rattle.shader_overloads.proofs.RegularLemmas.{any_group, any_number, number_concrete, number_within, number_without_arguments}
use Rattle.shader_overloads.proofs.regular.RegularTable.concrete_numbers.Goals as goal

pub returns-then-self-eq0 : goal.returns-then-self-eq0
returns-then-self-eq0 c types number rule at =
    any_number c.pairs.result number (number_within c.args.self number rule at) c.pairs.ensures.pairs
    ∙ number_without_arguments c.args.self number rule at types c.if-self-eq0.true

pub returns : goal.returns
returns c types number rule at =
    let many : 0 < c.args.self.arity = omega arith in
    any_group c.pairs-2.result c.bits.result number (number_within c.args.self number rule at) c.pairs-2.ensures.pairs
    ∙ ap (λ n. has_bit n (number % 12)) (c.bits.ensures tt)
    ∙ number_concrete c.args.self number rule at types c.concrete.result many c.concrete.ensures
