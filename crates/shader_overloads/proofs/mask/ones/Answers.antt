use Rattle.std.proofs.Common.{◌∙◌, ◌-◌, ap, arith, sym}
use Rattle.std.proofs.lemmas.Bool.{le-ltb, lt-ltb}
use Rattle.shader_overloads.specs.Bits.{has_bit}
use Rattle.shader_overloads.proofs.MaskLemmas.{all_bits, small_power}
use Rattle.shader_overloads.proofs.mask.ones.Goals as goal

pub returns-then-count-ge64-clause-below : goal.returns-then-count-ge64-clause-below
returns-then-count-ge64-clause-below c k h = all_bits 64 k ∙ lt-ltb k 64 h ∙ sym (lt-ltb k c.args.count (omega arith))

pub returns-then-count-ge64-clause-above : goal.returns-then-count-ge64-clause-above
returns-then-count-ge64-clause-above c k h = all_bits 64 k ∙ le-ltb k 64 h

pub returns-else-count-ge64-clause-below : goal.returns-else-count-ge64-clause-below
returns-else-count-ge64-clause-below c k h = ap (λ n. has_bit (n - 1) k) (small_power c.args.count (omega arith)) ∙ all_bits c.args.count k

pub returns-else-count-ge64-clause-above : goal.returns-else-count-ge64-clause-above
returns-else-count-ge64-clause-above c k h = ap (λ n. has_bit (n - 1) k) (small_power c.args.count (omega arith)) ∙ all_bits c.args.count k
    ∙ le-ltb k c.args.count (omega arith)
