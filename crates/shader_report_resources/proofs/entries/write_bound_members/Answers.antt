use Rattle.shader_report_resources.specs.Entries.{bound_members}
use Rattle.report_json.proofs.WritingLemmas.{adds_then, writes_last, writes_then}
use Rattle.shader_report_resources.proofs.entries.write_bound_members.Goals as goal

pub returns : goal.returns
unfolding bound_members
returns c =
    writes_then c.in_ok-key.ensures (writes_then c.in_ok-begin_array.ensures (adds_then c.in_ok-write_inputs.ensures (writes_then
    c.in_ok-end_array.ensures (writes_then c.in_ok-key-2.ensures (writes_then c.in_ok-begin_array-2.ensures (adds_then
    c.in_ok-write_outputs.ensures (writes_last c.in_ok-end_array-2.ensures)))))))
