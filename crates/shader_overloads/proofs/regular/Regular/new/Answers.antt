use Rattle.std.proofs.Common.{◌∙◌, ◌&&◌, ◌/◌, ◌%◌, ap}
use Rattle.shader_overloads.specs.Bits.{has_bit}
use Rattle.shader_overloads.proofs.PositionLemmas.{high_from_below}
use Rattle.shader_overloads.proofs.RegularLemmas.{masked_rules-fit, rules_of_pairs}
use Rattle.shader_overloads.proofs.regular.Regular.new.Goals as goal

pub invariant_of-result : goal.invariant_of-result
invariant_of-result c = record { last = high_from_below c.pairs-mask.result c.pairs-mask.ensures.within }

pub returns-clause-rules : goal.returns-clause-rules
returns-clause-rules c =
    rules_of_pairs (record { arity = c.args.arity; conclude = c.args.conclude }) c.args.constructors c.args.scalars c.pairs-mask.result
    (λ k h. c.pairs-mask.ensures.pairs k h ∙ ap (λ n. has_bit n (k / 12) && has_bit c.bits-2.result (k % 12)) (c.bits.ensures tt)
    ∙ ap (λ n. has_bit c.args.constructors.0 (k / 12) && has_bit n (k % 12)) (c.bits-2.ensures tt))

pub returns-clause-fits : goal.returns-clause-fits
returns-clause-fits c types = masked_rules-fit types (record { arity = c.args.arity; conclude = c.args.conclude }) c.pairs-mask.result
