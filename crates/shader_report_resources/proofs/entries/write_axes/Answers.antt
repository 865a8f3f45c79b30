use Rattle.shader_report_resources.specs.Entries.{axes_tokens}
use Rattle.report_json.proofs.WritingLemmas.{adds_then, writes_last, writes_then}
use Rattle.shader_report_resources.proofs.entries.write_axes.Goals as goal

pub returns : goal.returns
unfolding axes_tokens
returns c =
    writes_then c.in_ok-key.ensures (writes_then c.in_ok-begin_array.ensures (adds_then c.in_ok-write_optional.ensures (adds_then
    c.in_ok-write_optional-2.ensures (adds_then c.in_ok-write_optional-3.ensures (writes_last c.in_ok-end_array.ensures)))))
