use Rattle.shader_report_resources.specs.Tables.{member_tokens}
use Rattle.report_json.proofs.WritingLemmas.{adds_then, writes_last, writes_then}
use Rattle.shader_report_resources.proofs.tables.write_member.Goals as goal

pub returns : goal.returns
unfolding member_tokens
returns c =
    writes_then c.in_ok-begin_object.ensures (adds_then c.in_ok-write_name.ensures (adds_then c.in_ok-write_type_members.ensures
    (adds_then c.in_ok-write_number.ensures (writes_last c.in_ok-end_object.ensures))))
