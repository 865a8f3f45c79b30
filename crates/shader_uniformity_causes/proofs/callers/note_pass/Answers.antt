use Rattle.std.proofs.Common.{refl, sym, ◌∙◌}
use Rattle.shader_uniformity_causes.proofs.PassLemmas.{notes_false, notes_pass}
use Rattle.shader_uniformity_causes.proofs.callers.note_pass.Goals as goal

pub returns-in_ok-add_pass_to : goal.returns-in_ok-add_pass_to
returns-in_ok-add_pass_to c =
    notes_pass c.args.table.now c.args.place c.args.limit c.args.pass.now (record { caller = c.args.place; pass = c.args.pass.now })
    c.args.callers.now.items c.add_pass_to.new.callers.items (sym c.holds.ensures ∙ c.if-holds.true) refl c.in_ok-add_pass_to.ensures

pub returns-else-holds : goal.returns-else-holds
returns-else-holds c =
    notes_false c.args.table.now c.args.place c.args.limit c.args.pass.now c.args.callers.now.items (sym c.holds.ensures ∙ c.if-holds.false)
