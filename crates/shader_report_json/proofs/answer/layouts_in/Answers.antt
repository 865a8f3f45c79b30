use Rattle.std.proofs.Common.{◌≡◌, ◌∙◌, ◌++◌, ◌∷◌, [], List, Some, ap, slice_get, subst, sym}
use Rattle.shader_ir.specs.declared.proc.layouter.TypeLayout.{TypeLayout}
use Rattle.shader_report_json.proofs.TakeLemmas.{one_taken}
use Rattle.shader_report_json.proofs.answer.layouts_in.Goals as goal

pub loop-index-preserved : goal.loop-index-preserved
loop-index-preserved c =
    let layouts = c.args.layouter.now in
    let n = c.loop-index.index in
    let layout = c.index.result.now in
    let is : c.from_index-handle.result ≡ n = c.from_index-handle.ensures in
    let at : slice_get layouts n ≡ Some layout = subst (λ i. slice_get layouts i ≡ Some layout) is c.index.ensures.0 in
    c.in_ok-push.ensures.items ∙ ap (λ (v : List TypeLayout). v ++ layout ∷ []) c.loop-index.invariant
    ∙ sym (one_taken layouts n layout at)
