use Rattle.std.proofs.Common.{◌≡◌, length}
use Rattle.report_blocks.specs.Causes.{are_same}
use Rattle.report_blocks.proofs.same.are_same.Given as goal

abbrev pub invariant-loop-first : goal.invariant-loop-first
invariant-loop-first l = are_same l.left l.right ≡ are_same l.one l.other

abbrev pub decreases-loop-first : goal.decreases-loop-first
decreases-loop-first l = length l.left
