use Rattle.std.proofs.Common.{refl, subst, List, arith}
use Rattle.shader_uniformity.specs.Traces.{rules_at}
use Rattle.shader_uniformity.specs.declared.facts.BodyLocation.TheVariants as body
use Rattle.shader_uniformity.specs.declared.facts.Fact.{Fact}
use Rattle.shader_uniformity_needs.proofs.SearchLemmas.{searched_all, searched_function}
use Rattle.shader_uniformity_needs.specs.Needs.{needs_at}
use Rattle.shader_uniformity_needs.specs.Passes.{passes_at}
use Rattle.shader_uniformity_needs.specs.Search.{Searches}
use Rattle.shader_uniformity_needs.specs.declared.search.Search.{Search}
use Rattle.shader_uniformity_needs.proofs.search.search_functions.Goals as goal

pub loop-firsts-preserved : goal.loop-firsts-preserved
loop-firsts-preserved c =
    let m = c.args.module.now in
    let known = c.args.known.now in
    let place = body.Function c.len.result in
    let len = c.len.ensures in
    let long = c.pop.new.self.ok.0 in
    let mid : Search = record { begun = c.pop.new.self; found = c.loop-firsts.search.found } in
    let P : List Fact → Type 0 = λ v.
    Searches (rules_at m known place) (needs_at m place) (passes_at m place) place v mid c.search_body.new.search in
    searched_function m known c.loop-firsts.search mid c.in-Some.firsts c.in-Some.ensures.items refl c.loop-firsts.invariant
    c.search_body.new.search c.len.result (omega (arith, len, long)) (subst P c.deref.ensures.value c.in_ok-search_body.ensures)

pub returns : goal.returns
returns c =
    let none = c.in_default.ensures.cases.0 in
    let long = c.loop-firsts.search.begun.ok.0 in
    searched_all c.args.module.now c.args.known.now c.loop-firsts.search c.loop-firsts.search (omega (arith, none, long)) refl
    c.loop-firsts.invariant
