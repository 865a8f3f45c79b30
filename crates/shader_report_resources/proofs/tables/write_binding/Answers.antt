use Rattle.shader_report_resources.specs.Tables.{binding_members}
use Rattle.report_json.proofs.WritingLemmas.{adds_then}
use Rattle.shader_report_resources.proofs.WrittenLemmas.{with_number}
use Rattle.shader_report_resources.proofs.tables.write_binding.Goals as goal

pub returns : goal.returns
unfolding binding_members
returns c =
    adds_then (with_number c.group.ensures c.in_ok-write_number.ensures)
    (with_number c.binding.ensures c.in_ok-write_number-2.ensures)
