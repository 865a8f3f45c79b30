use Rattle.std.proofs.Common.{take}
use Rattle.json.specs.Value.{members_view}
use Rattle.shader_json_reader.specs.Shapes.{HasOnly}
use Rattle.shader_json_declarations.proofs.fields.Fields.only.Given as goal

abbrev pub invariant-loop-index : goal.invariant-loop-index
invariant-loop-index l = HasOnly l.first l.second (members_view (take l.index l.member-items))
