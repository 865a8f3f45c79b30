use Rattle.shader_report_resources.specs.Resources.{declared_tokens}
use Rattle.report_json.proofs.WritingLemmas.{adds_then, writes_last, writes_then}
use Rattle.shader_report_resources.proofs.resources.write_declared.Goals as goal

pub returns : goal.returns
unfolding declared_tokens
returns c =
    writes_then c.in_ok-key.ensures (writes_then c.in_ok-begin_array.ensures (adds_then c.in_ok-write_types.ensures (writes_then
    c.in_ok-end_array.ensures (writes_then c.in_ok-key-2.ensures (writes_then c.in_ok-begin_array-2.ensures (adds_then
    c.in_ok-write_globals.ensures (writes_then c.in_ok-end_array-2.ensures (writes_then c.in_ok-key-3.ensures (writes_then
    c.in_ok-begin_array-3.ensures (adds_then c.in_ok-write_overrides.ensures (writes_last c.in_ok-end_array-3.ensures)))))))))))
