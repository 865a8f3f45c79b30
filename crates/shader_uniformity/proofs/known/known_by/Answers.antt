use Rattle.std.proofs.Common.{◌∙◌, ◌+◌, sym, subst, ap, ℕ, List, Option, take, [], ◌++◌, ◌∷◌}
use Rattle.std.proofs.lemmas.List.{take_more}
use Rattle.std.specs.List.{flat_map}
use Rattle.shader_uniformity.specs.Cells.{ending}
use Rattle.shader_uniformity.specs.Fault.{IsKnown}
use Rattle.shader_uniformity.specs.declared.facts.Fact.{Fact}
use Rattle.shader_uniformity.specs.declared.facts.Rule.{Rule}
use Rattle.shader_uniformity.proofs.KnownLemmas.{known_more, known_none}
use Rattle.shader_uniformity.proofs.known.known_by.Goals as goal

pub loop-first-init : goal.loop-first-init
loop-first-init c =
    let P : List Rule → Type 0 = λ v. IsKnown [] c.args.lasts.now c.args.rules.now v in
    subst P (sym c.new-known.ensures.items) (known_none c.args.lasts.now c.args.rules.now)

pub loop-first-preserved : goal.loop-first-preserved
loop-first-preserved c =
    let before = take c.loop-first.first-index c.args.firsts.now in
    let lasts = c.args.lasts.now in
    let known = c.loop-first.known.items in
    let first = c.first-item.result in
    let P : List Fact → Type 0 = λ v. IsKnown v lasts c.args.rules.now (known ++ flat_map (ending c.in_ok-table.table.items first) lasts) in
    let Q : List Rule → Type 0 = λ v. IsKnown (take (c.loop-first.first-index + 1) c.args.firsts.now) lasts c.args.rules.now v in
    subst Q (sym (c.in_ok-add_ended.ensures
    ∙ ap (λ (v : List (Option ℕ)). known ++ flat_map (ending v first) lasts) c.deref.ensures.value))
    (subst P (sym (take_more c.args.firsts.now c.loop-first.first-index first c.loop-first-test.true
    ∙ ap (λ (x : Fact). before ++ x ∷ []) (sym c.first-item.is)))
    (known_more before lasts c.args.rules.now known first c.in_ok-table.table.items c.loop-first.invariant c.in_ok-table.ensures))
