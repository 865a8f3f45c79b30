use Rattle.std.proofs.Common.{◌≡◌, drop, nat_le}
use Rattle.std.specs.List.{list_all}
use Rattle.shader_resolve.specs.Nesting.{depth}
use Rattle.shader_resolve.proofs.well_formed.nesting.entry_points_nest_within.Given as goal

abbrev pub invariant-loop-entry : goal.invariant-loop-entry
invariant-loop-entry l =
    list_all (λ entry. nat_le (depth entry.function.body) l.levels) (drop l.entry-index l.entry_points)
    ≡ list_all (λ entry. nat_le (depth entry.function.body) l.levels) l.entry_points
