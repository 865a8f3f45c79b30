use Rattle.std.proofs.Common.{◌∙◌, ℕ, List, ◌++◌, ap, add-one, string_bytes}
use Rattle.shader_report_bounds.proofs.text.blocks_of.Goals as goal

pub loop-index-preserved : goal.loop-index-preserved
loop-index-preserved c = rw add-one (
  string_bytes c.loop-index.text,
  string_bytes c.in_ok-block.block,
  c.loop-index.invariant,
  c.in_ok-block.ensures,
  c.in_ok-push_str.ensures.bytes ∙ ap (λ (v : List ℕ). string_bytes c.loop-index.text ++ v) c.as_str.ensures.value,
)
