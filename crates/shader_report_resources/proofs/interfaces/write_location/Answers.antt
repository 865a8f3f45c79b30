use Rattle.shader_report_resources.specs.Interfaces.{location_members}
use Rattle.report_json.proofs.WritingLemmas.{adds_then}
use Rattle.shader_report_resources.proofs.WrittenLemmas.{with_number, with_text}
use Rattle.shader_report_resources.proofs.interfaces.write_location.Goals as goal

pub returns : goal.returns
unfolding location_members
returns c =
    adds_then (with_number c.location.ensures c.in_ok-write_number.ensures)
    (adds_then (with_number c.blend_source.ensures c.in_ok-write_number-2.ensures)
    (adds_then (with_text c.interpolation.ensures c.in_ok-write_text.ensures)
    (with_text c.sampling.ensures c.in_ok-write_text-2.ensures)))
