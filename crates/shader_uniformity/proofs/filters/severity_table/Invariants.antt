use Rattle.std.proofs.Common.{◌≡◌}
use Rattle.shader_arena.specs.Positions.{items_of}
use Rattle.shader_uniformity.specs.Filters.{severities_after, severity_table}
use Rattle.shader_uniformity.proofs.filters.severity_table.Given as goal

abbrev pub invariant-loop-filter : goal.invariant-loop-filter
invariant-loop-filter l =
    (goal.iterator-loop-filter).can_next l.filter-iterator
    × (goal.iterator-loop-filter).is_finite l.filter-iterator
    × (severities_after l.severities.items (items_of l.filter-iterator) ≡ severity_table l.filters)
