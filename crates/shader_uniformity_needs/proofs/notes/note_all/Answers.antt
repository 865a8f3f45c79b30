use Rattle.std.proofs.Common.{◌∙◌, sym, subst, ap, List, take, [], ◌++◌, ◌∷◌}
use Rattle.std.proofs.lemmas.List.{take_more}
use Rattle.shader_uniformity_needs.proofs.NoteLemmas.{notes_more, notes_none}
use Rattle.shader_uniformity_needs.specs.Notes.{Notes}
use Rattle.shader_uniformity_needs.specs.declared.needs.Pass.{Pass}
use Rattle.shader_uniformity_needs.proofs.notes.note_all.Goals as goal

pub loop-pass-init : goal.loop-pass-init
loop-pass-init c = notes_none c.args.table.now c.args.begun.now.items

pub loop-pass-preserved : goal.loop-pass-preserved
loop-pass-preserved c =
    let before = take c.loop-pass.pass-index c.args.passes.now in
    let P : List Pass → Type 0 = λ v. Notes c.args.table.now v c.args.begun.now.items c.note_passed.new.begun.items in
    subst P (sym (take_more c.args.passes.now c.loop-pass.pass-index c.pass-item.result c.loop-pass-test.true
    ∙ ap (λ (x : Pass). before ++ x ∷ []) (sym c.pass-item.is)))
    (notes_more c.args.table.now before c.pass-item.result c.args.begun.now.items c.loop-pass.begun.items c.note_passed.new.begun.items
    c.loop-pass.invariant c.in_ok-note_passed.ensures)
