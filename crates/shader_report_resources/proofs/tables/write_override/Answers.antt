use Rattle.std.proofs.Common.{◌∙◌, ap}
use Rattle.json.specs.Value.{value_view}
use Rattle.shader_interface.specs.Interface.{override_default_of, override_id_of}
use Rattle.shader_report_resources.specs.Tables.{override_tokens}
use Rattle.report_json.proofs.WritingLemmas.{adds_then, writes_last, writes_then}
use Rattle.shader_report_resources.proofs.WrittenLemmas.{with_number, with_text}
use Rattle.shader_report_resources.proofs.tables.write_override.Goals as goal

pub returns : goal.returns
unfolding override_tokens
returns c =
    let j = value_view c.args.root.now in
    let at = c.index-position.ensures.position in
    writes_then c.in_ok-begin_object.ensures (adds_then c.in_ok-write_name.ensures
    (adds_then (with_number (c.override_id.ensures ∙ ap (override_id_of j) at) c.in_ok-write_number.ensures)
    (adds_then c.in_ok-write_type_members.ensures
    (adds_then (with_text (c.override_default.ensures ∙ ap (override_default_of j) at) c.in_ok-write_text.ensures)
    (writes_last c.in_ok-end_object.ensures)))))
