use Rattle.shader_report_resources.specs.Resources.{used_tokens}
use Rattle.report_json.proofs.WritingLemmas.{adds_then, writes_last, writes_then}
use Rattle.shader_report_resources.proofs.resources.write_used.Goals as goal

pub returns : goal.returns
unfolding used_tokens
returns c =
    writes_then c.in_ok-key.ensures (writes_then c.in_ok-begin_array.ensures (adds_then c.in_ok-write_entries.ensures (writes_then
    c.in_ok-end_array.ensures (writes_then c.in_ok-key-2.ensures (writes_then c.in_ok-begin_array-2.ensures (adds_then
    c.in_ok-write_idle.ensures (writes_last c.in_ok-end_array-2.ensures)))))))
