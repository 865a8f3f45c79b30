use Rattle.shader_overloads.specs.Masks.{has_position, word_sum}
use Rattle.shader_overloads.proofs.ListCountLemmas.{AtLeast, BestSoFar}
use Rattle.shader_overloads.proofs.TableLemmas.{IsInside}
use Rattle.shader_overloads.proofs.list.greatest_count.Given as goal

abbrev pub invariant-loop-number : goal.invariant-loop-number
invariant-loop-number l = record {
  best : BestSoFar AtLeast (has_position l.fn.mask) (has_position l.left) l.rules l.greatest;
  inside : IsInside l.left l.fn.mask;
}

abbrev pub decreases-loop-number : goal.decreases-loop-number
decreases-loop-number l = word_sum l.left
