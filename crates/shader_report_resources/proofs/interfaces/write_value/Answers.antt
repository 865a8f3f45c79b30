use Rattle.shader_report_resources.specs.Interfaces.{value_tokens}
use Rattle.report_json.proofs.WritingLemmas.{adds_then, writes_last, writes_then}
use Rattle.shader_report_resources.proofs.WrittenLemmas.{with_text}
use Rattle.shader_report_resources.proofs.interfaces.write_value.Goals as goal

pub returns : goal.returns
unfolding value_tokens
returns c =
    writes_then c.in_ok-begin_object.ensures (adds_then c.in_ok-write_name.ensures (adds_then c.in_ok-write_type_members.ensures
    (adds_then (with_text c.builtin.ensures c.in_ok-write_text.ensures) (adds_then c.in_ok-write_location.ensures
    (writes_last c.in_ok-end_object.ensures)))))
