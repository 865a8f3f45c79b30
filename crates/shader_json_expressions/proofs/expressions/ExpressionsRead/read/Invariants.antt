use Rattle.std.proofs.Common.{◌≤◌, length, take}
use Rattle.json.specs.Value.{items_view}
use Rattle.shader_arena.specs.Positions.{most_items}
use Rattle.shader_json_reader.specs.Shapes.{Each}
use Rattle.shader_json_expressions.specs.Expressions.{IsExpression}
use Rattle.shader_json_expressions.proofs.expressions.ExpressionsRead.read.Given as goal

abbrev pub invariant-loop-index : goal.invariant-loop-index
invariant-loop-index l = record {
  each : Each IsExpression (items_view (take l.index l.item-items)) l.expressions;
  room : length l.expressions ≤ most_items;
}
