use Rattle.std.proofs.Common.{◌≡◌, take, option_map}
use Rattle.json.specs.Value.{value_view, members_view}
use Rattle.shader_json_reader.specs.Shapes.{values_of, kept}
use Rattle.shader_json_declarations.proofs.fields.Fields.find.Given as goal

abbrev pub invariant-loop-index : goal.invariant-loop-index
invariant-loop-index l = values_of l.name (members_view (take l.index l.member-items)) ≡ kept (option_map (λ f. value_view f.1.now) l.found)
