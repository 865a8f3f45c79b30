use Rattle.std.proofs.Common.{◌∙◌, ◌/◌, ◌%◌, ◌&&◌, ap, arith, bit_and}
use Rattle.std.proofs.lemmas.Nat.{and_le_r}
use Rattle.shader_overloads.specs.Bits.{has_bit}
use Rattle.shader_overloads.proofs.DigitLemmas.{masked_bit}
use Rattle.shader_overloads.proofs.PairLemmas.{words-pair, words-within}
use Rattle.shader_overloads.proofs.mask.Mask.pairs.Goals as goal

pub five_groups-third-requires-clause-groups : goal.five_groups-third-requires-clause-groups
five_groups-third-requires-clause-groups c = omega (arith, and_le_r c.args.groups 8191)

pub overflow_add-result : goal.overflow_add-result
overflow_add-result c = omega (arith, c.five_groups-first.ensures.within)

pub overflow_add-result-2 : goal.overflow_add-result-2
overflow_add-result-2 c = omega (arith, c.five_groups-second.ensures.within)

pub returns-clause-pairs : goal.returns-clause-pairs
returns-clause-pairs c k h =
    words-pair (bit_and c.args.groups 8191) (bit_and c.args.members 4095) c.five_groups-first.result c.five_groups-second.result
    c.five_groups-third.result
    c.five_groups-first.ensures.pairs c.five_groups-second.ensures.pairs c.five_groups-third.ensures.pairs
    c.five_groups-first.ensures.within c.five_groups-second.ensures.within c.five_groups-third.ensures.within k (omega arith)
    ∙ ap (λ b. b && has_bit (bit_and c.args.members 4095) (k % 12)) (masked_bit c.args.groups 13 (k / 12) (omega arith))
    ∙ ap (λ b. has_bit c.args.groups (k / 12) && b) (masked_bit c.args.members 12 (k % 12) (omega arith))

pub returns-clause-within : goal.returns-clause-within
returns-clause-within c =
    words-within (bit_and c.args.groups 8191) (bit_and c.args.members 4095) c.five_groups-first.result c.five_groups-second.result
    c.five_groups-third.result
    c.five_groups-first.ensures.pairs c.five_groups-second.ensures.pairs c.five_groups-third.ensures.pairs
    c.five_groups-first.ensures.within c.five_groups-second.ensures.within c.five_groups-third.ensures.within
    (omega (arith, and_le_r c.args.groups 8191))
