use Rattle.std.proofs.Common.{take}
use Rattle.std.specs.Map.{keys_of}
use Rattle.json.specs.Value.{members_view}
use Rattle.shader_json_reader.specs.Shapes.{AreDistinct}
use Rattle.shader_json_declarations.specs.NamedExpressions.{AreNames}
use Rattle.shader_json_declarations.proofs.functions.NamedExpressionsRead.read.Given as goal

abbrev pub invariant-loop-index : goal.invariant-loop-index
invariant-loop-index l = record {
  names : AreNames (members_view (take l.index l.member-items)) l.names;
  keys : AreDistinct (keys_of l.names);
}
