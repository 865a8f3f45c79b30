use Rattle.std.proofs.Common.{◌≡◌, ◌++◌}
use Rattle.shader_report_bounds.specs.Accesses.{accesses_of, checks_of}
use Rattle.shader_report_bounds.proofs.accesses.accesses_of.Given as goal

abbrev pub invariant-loop-access : goal.invariant-loop-access
invariant-loop-access l =
    (goal.iterator-loop-access).can_next l.access-iterator
    × (goal.iterator-loop-access).is_finite l.access-iterator
    × (l.checks.items ++ checks_of l.module l.function l.info l.policies l.access-iterator
    ≡ accesses_of l.module l.function l.info l.policies)
