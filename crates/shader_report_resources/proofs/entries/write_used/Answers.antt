use Rattle.shader_report_resources.specs.Entries.{used_tokens}
use Rattle.report_json.proofs.WritingLemmas.{adds_then, writes_last, writes_then}
use Rattle.shader_report_resources.proofs.entries.write_used.Goals as goal

pub returns : goal.returns
unfolding used_tokens
returns c =
    writes_then c.in_ok-begin_object.ensures (writes_then c.in_ok-key.ensures (writes_then c.in_ok-u64.ensures (adds_then
    c.in_ok-write_access.ensures (writes_last c.in_ok-end_object.ensures))))
