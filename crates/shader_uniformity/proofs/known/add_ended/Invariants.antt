use Rattle.std.proofs.Common.{◌≡◌, ◌++◌, drop}
use Rattle.std.specs.List.{flat_map}
use Rattle.shader_uniformity.specs.Cells.{ending}
use Rattle.shader_uniformity.proofs.known.add_ended.Given as goal

abbrev pub invariant-loop-last : goal.invariant-loop-last
invariant-loop-last l =
    l.known.items ++ flat_map (ending l.table l.first) (drop l.last-index l.lasts)
    ≡ l.fn.known.items ++ flat_map (ending l.table l.first) l.lasts
