use Rattle.std.proofs.Common.{◌≡◌, Some, slice_get, subst}
use Rattle.shader_report_bounds.proofs.BoundsLemmas.{none_yet, one_more}
use Rattle.shader_report_bounds.proofs.module_bounds.functions_of.Goals as goal

pub loop-index-init : goal.loop-index-init
loop-index-init c =
    none_yet c.args.module.now c.args.policies c.args.module.now.functions c.args.infos.now.functions c.new-bounds.result.items
    c.new-bounds.ensures.items

pub loop-index-preserved : goal.loop-index-preserved
loop-index-preserved c =
    let m = c.args.module.now in
    let infos = c.args.infos.now.functions in
    let is : c.from_index-handle.result ≡ c.loop-index.index = c.from_index-handle.ensures in
    one_more m c.args.policies m.functions infos c.loop-index.index c.index-function.result.now c.index-info.result.now
    c.loop-index.bounds.items c.add_bounds.new.bounds.items c.loop-index.invariant
    (subst (λ i. slice_get m.functions i ≡ Some c.index-function.result.now) is c.index-function.ensures)
    (subst (λ i. slice_get infos i ≡ Some c.index-info.result.now) is c.index-info.ensures) c.in_ok-add_bounds.ensures
