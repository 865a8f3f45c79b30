use Rattle.std.proofs.Common.{◌∙◌, ◌+◌, sym, subst, ap, ℕ, List, take, get_or, ◌++◌, string_bytes}
use Rattle.std.proofs.lemmas.List.{take_more}
use Rattle.report_blocks.specs.Blocks.{AreBlocks}
use Rattle.report_blocks.proofs.BlockLemmas.{one_more}
use Rattle.report_blocks.proofs.block.blocks_of.Goals as goal

pub loop-index-preserved : goal.loop-index-preserved
loop-index-preserved c =
    let m = c.args.module.now in
    let explains = c.args.detail.explains in
    let ds = c.args.diagnostics.now in
    let at = c.loop-index.index-index in
    let all = c.args.indexes.now in
    let text = string_bytes c.loop-index.text in
    let block = string_bytes c.in_ok-block.block in
    let more = one_more m explains ds (take at all) (get_or all at 0) text block c.loop-index.invariant c.in_ok-block.ensures in
    let taken = sym (take_more all at 0 c.loop-index-test.true) in
    let printed = sym (c.in_ok-push_str.ensures.bytes ∙ ap (λ (v : List ℕ). text ++ v) c.as_str.ensures.value) in
    subst (λ (v : List ℕ). AreBlocks m explains ds (take (at + 1) all) v) printed
    (subst (λ (is : List ℕ). AreBlocks m explains ds is (text ++ block)) taken more)
