use Rattle.shader_json_declarations.proofs.FieldLemmas.{empty_object, object_view}
use Rattle.shader_json_declarations.proofs.special_types.is_empty_object.Goals as goal

pub returns-in-Object : goal.returns-in-Object
returns-in-Object c =
    let members = c.as_slice.result.now in
    let is = object_view c.args.value.now c.in-Object.members members c.in-Object.is c.as_slice.ensures.value in
    empty_object _ members is c.is_empty.result c.is_empty.ensures
