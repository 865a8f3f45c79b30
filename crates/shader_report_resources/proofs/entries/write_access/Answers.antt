use Rattle.shader_report_resources.specs.Entries.{access_members}
use Rattle.report_json.proofs.WritingLemmas.{writes_last, writes_then}
use Rattle.shader_report_resources.proofs.entries.write_access.Goals as goal

pub returns : goal.returns
unfolding access_members
returns c =
    writes_then c.in_ok-key.ensures (writes_then c.in_ok-boolean.ensures (writes_then c.in_ok-key-2.ensures (writes_then
    c.in_ok-boolean-2.ensures (writes_then c.in_ok-key-3.ensures (writes_then c.in_ok-boolean-3.ensures (writes_then
    c.in_ok-key-4.ensures (writes_last c.in_ok-boolean-4.ensures)))))))
