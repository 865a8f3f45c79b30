use Rattle.std.proofs.Common.{◌∙◌, sym, subst, ap, List, Option, ℕ, length}
use Rattle.shader_uniformity.specs.Cells.{cells_with, HasMarks, IsSound}
use Rattle.shader_uniformity.proofs.ReachLemmas.{begun, effects_within, goes_on, settled, start_within, table_long}
use Rattle.shader_uniformity.proofs.reach.reach.Goals as goal

pub enter-requires : goal.enter-requires
enter-requires c = start_within c.args.start.now c.args.rules.now (length c.in_ok-table.table.items)
    (table_long c.in_ok-table.table.items c.width-width.result _ c.in_ok-table.ensures c.width-width.ensures)

pub pass-requires : goal.pass-requires
pass-requires c = effects_within c.args.start.now c.args.rules.now (length c.enter.new.table.items) (c.enter.ensures.length
    ∙ table_long c.in_ok-table.table.items c.width-width.result _ c.in_ok-table.ensures c.width-width.ensures)

pub loop-init : goal.loop-init
loop-init c =
    let rules = c.args.rules.now in
    let start = c.args.start.now in
    let table = c.enter.new.table.items in
    let long = c.enter.ensures.length
    ∙ table_long c.in_ok-table.table.items c.width-width.result _ c.in_ok-table.ensures c.width-width.ensures in
    let P : List (Option ℕ) → Type 0 = λ v. IsSound rules start v in
    let begins : P table =
    subst P (sym (c.enter.ensures.table ∙ ap (λ (v : List (Option ℕ)). cells_with v start) c.in_ok-table.ensures))
    (begun rules start c.width-width.result (start_within start rules c.width-width.result c.width-width.ensures)) in
    record {
      long = c.in_ok-pass.ensures.length ∙ long;
      sound = subst P (sym c.in_ok-pass.ensures.table) (goes_on rules start table (effects_within start rules (length table) long) begins);
    }

pub pass-requires-in-loop : goal.pass-requires-in-loop
pass-requires-in-loop c = effects_within c.args.start.now c.args.rules.now (length c.loop.table.items) c.loop.invariant.long

pub spread-requires : goal.spread-requires
spread-requires c = effects_within c.args.start.now c.args.rules.now (length c.pass-in-loop.new.table.items)
    (c.in_ok-pass-2.ensures.length ∙ c.loop.invariant.long)

pub loop-preserved : goal.loop-preserved
loop-preserved c =
    let rules = c.args.rules.now in
    let start = c.args.start.now in
    let table = c.loop.table.items in
    let P : List (Option ℕ) → Type 0 = λ v. IsSound rules start v in
    let passed : P c.pass-in-loop.new.table.items =
    subst P (sym c.in_ok-pass-2.ensures.table)
    (goes_on rules start table (effects_within start rules (length table) c.loop.invariant.long) c.loop.invariant.sound) in
    record {
      long = c.in_ok-spread.ensures.length ∙ c.in_ok-pass-2.ensures.length ∙ c.loop.invariant.long;
      sound = c.in_ok-spread.ensures.table.stays start passed;
    }

pub returns-then-not-branch : goal.returns-then-not-branch
returns-then-not-branch c =
    let P : List (Option ℕ) → Type 0 = λ v. HasMarks c.args.rules.now c.args.start.now v in
    subst P (sym c.in_ok-pass-2.ensures.table) (settled c.args.rules.now c.args.start.now c.loop.table.items
    (sym c.in_ok-pass-2.ensures.changes ∙ c.if-not-branch.true) c.loop.invariant.sound)
