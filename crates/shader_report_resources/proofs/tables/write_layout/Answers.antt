use Rattle.shader_report_resources.specs.Tables.{layout_members}
use Rattle.report_json.proofs.WritingLemmas.{adds_then}
use Rattle.shader_report_resources.proofs.WrittenLemmas.{with_number}
use Rattle.shader_report_resources.proofs.tables.write_layout.Goals as goal

pub returns : goal.returns
unfolding layout_members
returns c =
    adds_then (with_number c.size_of.ensures c.in_ok-write_number.ensures)
    (with_number c.alignment_of.ensures c.in_ok-write_number-2.ensures)
