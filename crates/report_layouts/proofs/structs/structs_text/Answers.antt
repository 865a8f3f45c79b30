use Rattle.std.proofs.Common.{◌∙◌, ◌++◌, ℕ, List, ap, slice_get, string_bytes, subst}
use Rattle.report_layouts.specs.Structs.{IsOnType}
use Rattle.report_layouts.proofs.StructLemmas.{one_more}
use Rattle.report_layouts.proofs.structs.structs_text.Goals as goal

pub loop-position-preserved : goal.loop-position-preserved
loop-position-preserved c =
    let m = c.args.module.now in
    let layouts = c.args.layouts.now in
    let is_drawn = c.args.is_drawn in
    let text = string_bytes c.loop-position.text in
    let more = string_bytes c.in_ok-more.more in
    let is = subst (λ (ty : ℕ). IsOnType m layouts is_drawn ty (slice_get m.types ty) more) c.from_index-ty.ensures c.in_ok-more.ensures in
    let printed = c.in_ok-push_str.ensures.bytes ∙ ap (λ (v : List ℕ). text ++ v) c.as_str.ensures.value in
    one_more m layouts is_drawn c.loop-position.position text more _ c.loop-position.invariant is printed
