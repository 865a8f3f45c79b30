use Rattle.std.proofs.Common.{◌≡◌}
use Rattle.report_answers.specs.Policies.{policies_from, policies_of}
use Rattle.report_answers.proofs.policies.policies_of.Given as goal

abbrev pub invariant-loop-part : goal.invariant-loop-part
invariant-loop-part l =
    (goal.iterator-loop-part).can_next l.part-iterator
    × (goal.iterator-loop-part).is_finite l.part-iterator
    × (policies_from l.policies l.part-iterator ≡ policies_of l.word)
