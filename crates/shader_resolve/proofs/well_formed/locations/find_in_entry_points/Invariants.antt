use Rattle.std.proofs.Common.{◌≡◌, drop}
use Rattle.std.specs.List.{enumerate_from}
use Rattle.shader_resolve.specs.LocationTests.{find_entry_points, find_in_entry_point, first_within}
use Rattle.shader_resolve.specs.FaultyLocations.{in_entry_point}
use Rattle.shader_resolve.proofs.well_formed.locations.find_in_entry_points.Given as goal

abbrev pub invariant-loop-entry : goal.invariant-loop-entry
invariant-loop-entry l =
    (l.index ≡ l.entry-index)
    × (first_within in_entry_point (find_in_entry_point l.«module») (enumerate_from l.index
    (drop l.entry-index l.«module».entry_points)) ≡ find_entry_points l.«module»)
