use Rattle.std.proofs.Common.{◌∙◌, ap, List, Some, ℕ}
use Rattle.report_json.proofs.WritingLemmas.{adds_then}
use Rattle.shader_report_resources.proofs.WrittenLemmas.{with_number, with_text}
use Rattle.shader_report_resources.proofs.tables.write_type_members.Goals as goal

pub returns : goal.returns
returns c =
    adds_then (with_number (ap (λ (n : ℕ). Some n) c.position_of.ensures) c.in_ok-write_number.ensures)
    (with_text (ap (λ (text : List ℕ). Some text) (c.as_str.ensures.value ∙ c.in_ok-words.ensures)) c.in_ok-write_text.ensures)
