use Rattle.std.proofs.Common.{◌≡◌, ◌≤◌, ◌+◌, ◌∙◌, sym, length, ◌++◌, [], ◌∷◌, arith, length-append}
use Rattle.std.proofs.lemmas.List.{take-append-le}
use Rattle.std.proofs.lemmas.List.Elements.{All-append, All-cons}
use Rattle.shader_ir.specs.Layout.{HasStride}
use Rattle.shader_ir.proofs.LayoutLemmas.{added_more, faultless_more, built_faultless, one_more, size_in_range_from}
use Rattle.shader_ir.proofs.proc.layouter.Layouter.update_added.Goals as goal

pub layout_over-requires-clause-sizes : goal.layout_over-requires-clause-sizes
layout_over-requires-clause-sizes c = size_in_range_from c.args.ctx (length c.args.self.now) c.requires.sizes _ c.index.result.now
    (omega arith) c.index.ensures

pub loop-position-preserved : goal.loop-position-preserved
loop-position-preserved c =
    let invariant = c.loop-position.invariant in
    let layouts = c.loop-position.self-inside.layouts in
    let ctx = c.args.ctx in
    let stored = c.args.self.now in
    let layout = c.in-Ok.layout in
    let type = c.index.result.now in
    let added = c.in_ok-insert-in-Ok.ensures.ok in
    let at : length layouts ≡ c.from_index-handle.result = invariant.reached ∙ sym c.from_index-handle.ensures in
    let before : length stored ≤ length layouts = omega arith in
    let longer : length (layouts ++ layout ∷ []) ≡ length layouts + 1 = length-append layouts (layout ∷ []) in
    record {
      reached = rw added (omega arith);
      behind = omega arith;
      strides = rw added (All-append HasStride layouts (layout ∷ []) invariant.strides
          (All-cons HasStride layout [] c.in-Ok.ensures.stride (λ k d lt. absurd (omega arith))));
      retained = rw added (take-append-le (length stored) layouts (layout ∷ []) before ∙ invariant.retained);
      added = rw added (added_more ctx (length stored) layouts type layout invariant.added
          (rw at c.index.ensures) (rw at (sym c.in-Ok.ensures.layout)));
      faultless = rw added (faultless_more ctx (length stored) (length layouts) _ longer invariant.faultless
          (built_faultless ctx layouts (length layouts) type layout (rw at c.index.ensures) (rw at (sym c.in-Ok.ensures.layout))));
      laid_out = λ first. rw added (one_more ctx layouts (invariant.laid_out first) type layout
          (rw at c.index.ensures) (rw at (sym c.in-Ok.ensures.layout)));
    }

pub returns-in_err-insert-in-Ok-clause-added : goal.returns-in_err-insert-in-Ok-clause-added
returns-in_err-insert-in-Ok-clause-added c = rw c.in_err-insert-in-Ok.ensures.err c.loop-position.invariant.added
