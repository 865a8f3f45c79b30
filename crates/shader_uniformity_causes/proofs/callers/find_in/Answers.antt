use Rattle.std.proofs.Common.{◌∙◌, subst, ℕ, List, Option}
use Rattle.shader_uniformity.specs.Traces.{rules_at}
use Rattle.shader_uniformity.specs.declared.facts.Rule.{Rule}
use Rattle.shader_uniformity_needs.specs.Notes.{HasFollowers}
use Rattle.shader_uniformity_needs.specs.Passes.{passes_at}
use Rattle.shader_uniformity_needs.specs.declared.needs.Pass.{Pass}
use Rattle.shader_uniformity_causes.proofs.PassLemmas.{found}
use Rattle.shader_uniformity_causes.specs.Callers.{Notes}
use Rattle.shader_uniformity_causes.proofs.callers.find_in.Goals as goal

pub returns : goal.returns
returns c =
    let place = c.args.place in
    let limit = c.args.limit in
    let passes = passes_at c.args.module.now place in
    let table = c.in_ok-table.table.items in
    let old = c.args.callers.now.items in
    let new = c.note_passes.new.callers.items in
    let M : List Rule → Type 0 = λ v. HasFollowers v c.args.firsts.now table in
    let T : List (Option ℕ) → Type 0 = λ v. Notes v place limit passes old new in
    let N : List Pass → Type 0 = λ v. Notes c.deref.result.now place limit v old new in
    found (rules_at c.args.module.now c.args.known.now place) passes place limit c.args.firsts.now table old new
    (subst M c.in_ok-rules.ensures c.in_ok-table.ensures)
    (subst T c.deref.ensures.value (subst N (c.deref-2.ensures.value ∙ c.in_ok-demands.ensures.passes) c.in_ok-note_passes.ensures))
