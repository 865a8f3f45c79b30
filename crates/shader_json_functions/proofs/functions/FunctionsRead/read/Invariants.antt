use Rattle.std.proofs.Common.{◌≤◌, length, take}
use Rattle.json.specs.Value.{items_view}
use Rattle.shader_arena.specs.Positions.{most_items}
use Rattle.shader_json_reader.specs.Shapes.{Each}
use Rattle.shader_json_functions.specs.Functions.{IsFunction}
use Rattle.shader_json_functions.proofs.functions.FunctionsRead.read.Given as goal

abbrev pub invariant-loop-index : goal.invariant-loop-index
invariant-loop-index l = record {
  each : Each IsFunction (items_view (take l.index l.item-items)) l.functions;
  few : length l.functions ≤ most_items;
}
