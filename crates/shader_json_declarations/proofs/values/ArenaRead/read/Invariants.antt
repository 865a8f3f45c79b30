use Rattle.std.proofs.Common.{◌≤◌, length, take}
use Rattle.json.specs.Value.{items_view}
use Rattle.shader_arena.specs.Positions.{most_items}
use Rattle.shader_json_reader.specs.Shapes.{Each}
use Rattle.shader_json_declarations.proofs.values.ArenaRead.read.Given as goal

abbrev pub invariant-loop-index : goal.invariant-loop-index
invariant-loop-index g l = record {
  each : Each g.T.Read.reads (items_view (take l.index l.item-items)) l.arena;
  room : length l.arena ≤ most_items;
}
