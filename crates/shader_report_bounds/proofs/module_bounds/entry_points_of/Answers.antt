use Rattle.std.proofs.Common.{◌≡◌, ◌∙◌, Some, ap, option_map, slice_get}
use Rattle.std.proofs.lemmas.Option.{slice_get-map}
use Rattle.shader_ir.specs.declared.function.EntryPoint.{EntryPoint}
use Rattle.shader_report_bounds.proofs.BoundsLemmas.{none_yet, one_more}
use Rattle.shader_report_bounds.specs.Bounds.{entry_functions}
use Rattle.shader_report_bounds.proofs.module_bounds.entry_points_of.Goals as goal

pub loop-index-init : goal.loop-index-init
loop-index-init c =
    none_yet c.args.module.now c.args.policies (entry_functions c.args.module.now) c.args.infos.now.entry_points c.new-bounds.result.items
    c.new-bounds.ensures.items

pub loop-index-preserved : goal.loop-index-preserved
loop-index-preserved c =
    let m = c.args.module.now in
    let entry = c.index-entry.result.now in
    let at : slice_get (entry_functions m) c.loop-index.index ≡ Some entry.function =
    slice_get-map (λ (e : EntryPoint). e.function) m.entry_points c.loop-index.index
    ∙ ap (option_map (λ (e : EntryPoint). e.function)) c.index-entry.ensures in
    one_more m c.args.policies (entry_functions m) c.args.infos.now.entry_points c.loop-index.index entry.function
    c.get_entry_point-info.result.now c.loop-index.bounds.items c.add_bounds.new.bounds.items c.loop-index.invariant at
    c.get_entry_point-info.ensures c.in_ok-add_bounds.ensures
