use Rattle.std.proofs.Common.{length}
use Rattle.shader_overloads.specs.Masks.{IsBelow, word_sum}
use Rattle.shader_overloads.specs.Remaining.{has_concrete_arguments}
use Rattle.shader_overloads.proofs.TableLemmas.{Decided, IsInside}
use Rattle.shader_overloads.proofs.list.concrete_of.Given as goal

-- the numbers already visited are decided
abbrev pub invariant-loop-number : goal.invariant-loop-number
invariant-loop-number l =
    record {
      decided : Decided (has_concrete_arguments l.types) l.fn.mask l.left l.retained l.rules;
      inside : IsInside l.left l.fn.mask;
      within : IsBelow l.retained (length l.rules);
    }

abbrev pub decreases-loop-number : goal.decreases-loop-number
decreases-loop-number l = word_sum l.left
