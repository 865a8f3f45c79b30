use Rattle.std.proofs.Common.{◌≡◌, ◌≤◌, length, take}
use Rattle.json.specs.Value.{items_view}
use Rattle.shader_arena.specs.Positions.{most_items}
use Rattle.shader_json_reader.specs.Shapes.{AreDistinct, Each}
use Rattle.shader_json_declarations.specs.Types.{IsType}
use Rattle.shader_json_declarations.proofs.types.UniqueArenaTypeMarkTypeRead.read.Given as goal

abbrev pub invariant-loop-index : goal.invariant-loop-index
invariant-loop-index l = record {
  each : Each IsType (items_view (take l.index l.item-items)) l.types;
  count : length l.types ≡ l.index;
  room : length l.types ≤ most_items;
  distinct : AreDistinct l.types;
}
