use Rattle.shader_report_resources.specs.Entries.{pair_tokens}
use Rattle.report_json.proofs.WritingLemmas.{writes_last, writes_then}
use Rattle.shader_report_resources.proofs.entries.write_pair.Goals as goal

pub returns : goal.returns
unfolding pair_tokens
returns c =
    writes_then c.in_ok-begin_object.ensures (writes_then c.in_ok-key.ensures (writes_then c.in_ok-u64.ensures (writes_then
    c.in_ok-key-2.ensures (writes_then c.in_ok-u64-2.ensures (writes_last c.in_ok-end_object.ensures)))))
