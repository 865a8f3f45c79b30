use Rattle.std.proofs.Common.{take}
use Rattle.json.specs.Value.{items_view}
use Rattle.shader_json_reader.specs.Shapes.{Each}
use Rattle.shader_json_functions.specs.Functions.{IsEntryPoint}
use Rattle.shader_json_functions.proofs.functions.EntryPointsRead.read.Given as goal

abbrev pub invariant-loop-index : goal.invariant-loop-index
invariant-loop-index l = Each IsEntryPoint (items_view (take l.index l.item-items)) l.entry_points.items
