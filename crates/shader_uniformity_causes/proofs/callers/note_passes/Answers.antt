use Rattle.std.proofs.Common.{◌∙◌, sym, subst, ap, List, take, [], ◌++◌, ◌∷◌}
use Rattle.std.proofs.lemmas.List.{take_more}
use Rattle.shader_uniformity_needs.specs.declared.needs.Pass.{Pass}
use Rattle.shader_uniformity_causes.proofs.PassLemmas.{notes_more, notes_none}
use Rattle.shader_uniformity_causes.specs.Callers.{Notes}
use Rattle.shader_uniformity_causes.proofs.callers.note_passes.Goals as goal

pub loop-pass-init : goal.loop-pass-init
loop-pass-init c = notes_none c.args.table.now c.args.place c.args.limit c.args.callers.now.items

pub loop-pass-preserved : goal.loop-pass-preserved
loop-pass-preserved c =
    let before = take c.loop-pass.pass-index c.args.passes.now in
    let P : List Pass → Type 0 =
    λ v. Notes c.args.table.now c.args.place c.args.limit v c.args.callers.now.items c.note_pass.new.callers.items in
    subst P (sym (take_more c.args.passes.now c.loop-pass.pass-index c.pass-item.result c.loop-pass-test.true
    ∙ ap (λ (x : Pass). before ++ x ∷ []) (sym c.pass-item.is)))
    (notes_more c.args.table.now c.args.place c.args.limit before c.pass-item.result c.args.callers.now.items c.loop-pass.callers.items
    c.note_pass.new.callers.items c.loop-pass.invariant c.in_ok-note_pass.ensures)
