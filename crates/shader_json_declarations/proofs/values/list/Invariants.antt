use Rattle.std.proofs.Common.{take}
use Rattle.json.specs.Value.{items_view}
use Rattle.shader_json_reader.specs.Shapes.{Each}
use Rattle.shader_json_declarations.proofs.values.list.Given as goal

abbrev pub invariant-loop-index : goal.invariant-loop-index
invariant-loop-index g l = Each g.T.Read.reads (items_view (take l.index l.item-items)) l.list.items
