use Rattle.std.proofs.Common.{◌≡◌, ◌++◌}
use Rattle.std.specs.List.{enumerate_from, flat_map}
use Rattle.shader_uniformity.specs.Differs.{source_rules}
use Rattle.shader_uniformity.proofs.known.add_sources.Given as goal

abbrev pub invariant-loop-handle : goal.invariant-loop-handle
invariant-loop-handle l =
    (goal.iterator-loop-handle).can_next l.handle-iterator
    × (goal.iterator-loop-handle).is_finite l.handle-iterator
    × (l.rules.items ++ flat_map (source_rules l.entry l.arguments) l.handle-iterator
    ≡ l.fn.rules.items ++ flat_map (source_rules l.entry l.arguments) (enumerate_from 0 l.expressions))
