use Rattle.std.proofs.Common.{◌≡◌}
use Rattle.std.specs.List.{list_all}
use Rattle.shader_uniformity.specs.Places.{place_at}
use Rattle.report_findings.specs.Effects.{read_own, reads_own}
use Rattle.report_findings.proofs.effects.read_own.Given as goal

abbrev pub invariant-loop-handle : goal.invariant-loop-handle
invariant-loop-handle l =
    (goal.iterator-loop-handle).can_next l.handle-iterator
    × (goal.iterator-loop-handle).is_finite l.handle-iterator
    × (list_all (λ entry. reads_own (place_at l.places entry.0) entry.1) l.handle-iterator ≡ read_own l.places l.function.expressions)
