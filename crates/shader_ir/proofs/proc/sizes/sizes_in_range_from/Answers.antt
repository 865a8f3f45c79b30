use Rattle.std.proofs.Common.{◌∙◌, arith, false, refl, sym}
use Rattle.std.proofs.lemmas.Bool.{both_ways}
use Rattle.shader_ir.proofs.LayoutLemmas.{no_sizes_from, sizes_from}
use Rattle.shader_ir.proofs.proc.sizes.sizes_in_range_from.Goals as goal

pub loop-position-preserved : goal.loop-position-preserved
loop-position-preserved c =
    let next = sizes_from c.args.ctx c.loop-position.position c.index.result.now (rw (sym c.from_index.ensures) c.index.ensures) in
    let all = c.loop-position.invariant in
    ((λ rest. all.0 (next.1 (c.is_size_in_range.ensures.0 c.if-not-is_size_in_range.false, rest))), (λ whole. (next.0 (all.1 whole)).1))

pub returns-then-not-is_size_in_range : goal.returns-then-not-is_size_in_range
returns-then-not-is_size_in_range c =
    let next = sizes_from c.args.ctx c.loop-position.position c.index.result.now (rw (sym c.from_index.ensures) c.index.ensures) in (
      (λ e. absurd (both_ways false refl e)),
      (λ whole. sym c.if-not-is_size_in_range.true ∙ c.is_size_in_range.ensures.1 (next.0 (c.loop-position.invariant.1 whole)).0),
    )

pub returns : goal.returns
returns c = ((λ e. c.loop-position.invariant.0 (no_sizes_from c.args.ctx c.loop-position.position (omega arith))), (λ whole. refl))
