use Rattle.shader_report_resources.specs.Resources.{resources_tokens}
use Rattle.report_json.proofs.WritingLemmas.{adds_then, writes_last, writes_then}
use Rattle.shader_report_resources.proofs.resources.write_object.Goals as goal

pub returns : goal.returns
unfolding resources_tokens
returns c =
    writes_then c.in_ok-begin_object.ensures (adds_then c.in_ok-write_declared.ensures (adds_then c.in_ok-write_used.ensures
    (writes_last c.in_ok-end_object.ensures)))
