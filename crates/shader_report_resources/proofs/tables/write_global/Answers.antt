use Rattle.std.proofs.Common.{ap, List, Some, subst, ℕ}
use Rattle.json.specs.Value.{value_view}
use Rattle.shader_report_resources.specs.Tables.{binding_members, global_tokens}
use Rattle.report_json.specs.Tokens.{Adds}
use Rattle.report_json.proofs.WritingLemmas.{adds_then, writes_last, writes_then}
use Rattle.shader_report_resources.proofs.WrittenLemmas.{with_text}
use Rattle.shader_report_resources.proofs.tables.write_global.Goals as goal

pub returns : goal.returns
unfolding global_tokens
returns c =
    let bound =
    subst (λ (n : ℕ). Adds c.write_name.new.writer c.write_binding.new.writer (binding_members (value_view c.args.root.now) n))
    c.index.ensures.position c.in_ok-write_binding.ensures in
    writes_then c.in_ok-begin_object.ensures (adds_then c.in_ok-write_name.ensures (adds_then bound
    (adds_then (with_text (ap (λ (text : List ℕ). Some text) c.space_word.ensures) c.in_ok-write_text.ensures)
    (adds_then (with_text c.stated_access.ensures c.in_ok-write_text-2.ensures) (adds_then c.in_ok-write_type_members.ensures
    (writes_last c.in_ok-end_object.ensures))))))
