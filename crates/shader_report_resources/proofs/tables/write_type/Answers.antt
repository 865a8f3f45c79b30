use Rattle.std.proofs.Common.{◌∙◌, ap, List, Option, Some, subst, ℕ}
use Rattle.shader_ir.specs.declared.proc.layouter.TypeLayout.{TypeLayout}
use Rattle.shader_report_resources.specs.Tables.{layout_members, type_tokens}
use Rattle.report_json.specs.Tokens.{Adds}
use Rattle.report_json.proofs.WritingLemmas.{adds_then, writes_last, writes_then}
use Rattle.shader_report_resources.proofs.WrittenLemmas.{with_number, with_text}
use Rattle.shader_report_resources.proofs.tables.write_type.Goals as goal

pub returns : goal.returns
unfolding type_tokens
returns c =
    let said = with_text (ap (λ (text : List ℕ). Some text) (c.as_str.ensures.value ∙ c.in_ok-words.ensures)) c.in_ok-write_text.ensures in
    let laid =
    subst (λ (v : Option TypeLayout). Adds c.write_text.new.writer c.write_layout.new.writer (layout_members v)) c.layout_at-layout.ensures
    c.in_ok-write_layout.ensures in
    writes_then c.in_ok-begin_object.ensures (adds_then said (adds_then laid
    (adds_then (with_number c.stride_of.ensures c.in_ok-write_number.ensures) (writes_then c.in_ok-key.ensures
    (adds_then c.in_ok-write_members.ensures (writes_last c.in_ok-end_object.ensures))))))
