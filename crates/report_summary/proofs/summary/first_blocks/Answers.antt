use Rattle.std.proofs.Common.{◌∙◌, ℕ, List, ◌++◌, ap, add-one, rules, string_bytes}
use Rattle.report_summary.proofs.summary.first_blocks.Goals as goal

pub loop-index-preserved : goal.loop-index-preserved
loop-index-preserved c = rw add-one (
  string_bytes c.loop-index.text,
  string_bytes c.in_ok-block.block,
  c.loop-index.invariant,
  search rules,
  c.in_ok-push_str.ensures.bytes ∙ ap (λ (v : List ℕ). string_bytes c.loop-index.text ++ v) c.as_str.ensures.value,
)
