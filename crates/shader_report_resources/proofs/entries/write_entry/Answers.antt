use Rattle.std.proofs.Common.{ap, List, Some, ℕ}
use Rattle.shader_report_resources.specs.Entries.{entry_tokens}
use Rattle.report_json.proofs.WritingLemmas.{adds_then, writes_last, writes_then}
use Rattle.shader_report_resources.proofs.WrittenLemmas.{with_text}
use Rattle.shader_report_resources.proofs.entries.write_entry.Goals as goal

pub returns : goal.returns
unfolding entry_tokens
returns c =
    writes_then c.in_ok-begin_object.ensures
    (adds_then (with_text (ap (λ (text : List ℕ). Some text) c.as_str.ensures) c.in_ok-write_text.ensures)
    (adds_then (with_text (ap (λ (text : List ℕ). Some text) c.stage_word.ensures) c.in_ok-write_text-2.ensures)
    (adds_then c.in_ok-write_size.ensures (adds_then c.in_ok-write_uses.ensures (adds_then c.in_ok-write_bound_members.ensures
    (writes_last c.in_ok-end_object.ensures))))))
