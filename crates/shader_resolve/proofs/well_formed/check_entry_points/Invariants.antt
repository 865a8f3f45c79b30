use Rattle.std.proofs.Common.{◌≡◌, drop}
use Rattle.shader_resolve.specs.ModuleTests.{check_entry_point, in_list}
use Rattle.shader_resolve.proofs.well_formed.check_entry_points.Given as goal

abbrev pub invariant-loop-entry : goal.invariant-loop-entry
invariant-loop-entry l = in_list (check_entry_point l.«module») (drop l.entry-index l.«module».entry_points)
    ≡ in_list (check_entry_point l.«module») l.«module».entry_points
