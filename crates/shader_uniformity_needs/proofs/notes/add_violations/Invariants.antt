use Rattle.std.proofs.Common.{◌≡◌, ◌++◌, drop}
use Rattle.std.specs.List.{flat_map}
use Rattle.shader_uniformity_needs.specs.Notes.{violations_of}
use Rattle.shader_uniformity_needs.proofs.notes.add_violations.Given as goal

abbrev pub invariant-loop-need : goal.invariant-loop-need
invariant-loop-need l =
    l.found.items ++ flat_map (violations_of l.place l.table) (drop l.need-index l.needs)
    ≡ l.fn.found.items ++ flat_map (violations_of l.place l.table) l.needs
