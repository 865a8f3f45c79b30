use Rattle.std.proofs.Common.{◌∙◌, subst, ap, ℕ, List, ◌++◌, Option}
use Rattle.std.specs.List.{flat_map}
use Rattle.std.specs.List.Sorted.{IsPermutation}
use Rattle.shader_uniformity.specs.Traces.{rules_at}
use Rattle.shader_uniformity.specs.declared.facts.Rule.{Rule}
use Rattle.shader_uniformity_needs.proofs.BodyLemmas.{searched}
use Rattle.shader_uniformity_needs.specs.Needs.{needs_at}
use Rattle.shader_uniformity_needs.specs.Notes.{violations_of, HasFollowers, Notes}
use Rattle.shader_uniformity_needs.specs.Passes.{passes_at}
use Rattle.shader_uniformity_needs.specs.declared.needs.Need.{Need}
use Rattle.shader_uniformity_needs.specs.declared.needs.Pass.{Pass}
use Rattle.shader_uniformity_needs.proofs.search.search_body.Goals as goal

pub returns : goal.returns
returns c =
    let place = c.args.place in
    let passes = passes_at c.args.module.now place in
    let table = c.in_ok-table.table.items in
    let backward = c.reverse.new.self.items in
    let begun = c.args.search.now.begun.items in
    let found = c.args.search.now.found.items in
    let M : List Rule → Type 0 = λ v. HasFollowers v c.args.firsts.now table in
    let O : List Need → Type 0 = λ v. IsPermutation v backward in
    let T : List (Option ℕ) → Type 0 = λ v. Notes v passes begun c.note_all.new.begun.items in
    let N : List Pass → Type 0 = λ v. Notes c.deref-3.result.now v begun c.note_all.new.begun.items in
    searched (rules_at c.args.module.now c.args.known.now place) (needs_at c.args.module.now place) backward passes place
    c.args.firsts.now table (subst M c.in_ok-rules.ensures c.in_ok-table.ensures)
    (subst O c.in_ok-demands.ensures.needs c.reverse.ensures.permutation)
    c.args.search.now (record { begun = c.note_all.new.begun; found = c.add_violations.new.found })
    (c.in_ok-add_violations.ensures
    ∙ ap (λ (v : List (Option ℕ)). found ++ flat_map (violations_of place v) c.deref-2.result.now) c.deref.ensures.value
    ∙ ap (λ (v : List Need). found ++ flat_map (violations_of place table) v) c.deref-2.ensures.value)
    (subst T c.deref-3.ensures.value (subst N (c.deref-4.ensures.value ∙ c.in_ok-demands.ensures.passes) c.in_ok-note_all.ensures))
