use Rattle.std.proofs.Common.{◌∙◌, subst, ap, List, Option, ◌++◌}
use Rattle.shader_uniformity.specs.Traces.{rules_at}
use Rattle.shader_uniformity.specs.declared.facts.Rule.{Rule}
use Rattle.shader_uniformity_causes.proofs.ChainLemmas.{way_ends, way_goes_on}
use Rattle.shader_uniformity_causes.specs.Callers.{passed_at}
use Rattle.shader_uniformity_causes.specs.Chains.{causes_at}
use Rattle.shader_uniformity_causes.specs.Ways.{IsWayBack, LeadsTo}
use Rattle.shader_uniformity_causes.specs.declared.causes.PassedBy.{PassedBy}
use Rattle.shader_uniformity_causes.specs.declared.ways.Way.{Way}
use Rattle.shader_uniformity_causes.proofs.chains.causes_of.Goals as goal

pub loop-preserved : goal.loop-preserved
loop-preserved c =
    let rules = rules_at c.args.module.now c.args.known.now c.loop.body in
    let calls = passed_at c.args.callers.now c.loop.body in
    let trace = c.in-Some.field-0.trace.items in
    let W : Option Way → Type 0 = λ v. IsWayBack rules calls c.loop.needed v in
    let L : Option PassedBy → Type 0 = λ v. LeadsTo rules calls c.loop.needed trace v in
    let leads = subst L c.in-Some-by.is (subst W c.in-Some.is c.in_ok-trace.ensures) in
    way_goes_on c.args.module.now c.args.known.now c.args.callers.now c.requires c.args.place c.args.fact.now c.loop.body c.loop.needed
    c.loop.chain.items c.loop.invariant trace c.in-Some-by.by c.add_causes.new.chain.items
    (c.in_ok-add_causes-in-Some.ensures
    ∙ ap (λ (v : List Rule). c.loop.chain.items ++ causes_at c.loop.body v) c.deref.ensures.value) leads.0 leads.1

pub returns-in-None-by : goal.returns-in-None-by
returns-in-None-by c =
    let rules = rules_at c.args.module.now c.args.known.now c.loop.body in
    let calls = passed_at c.args.callers.now c.loop.body in
    let trace = c.in-Some.field-0.trace.items in
    let W : Option Way → Type 0 = λ v. IsWayBack rules calls c.loop.needed v in
    let L : Option PassedBy → Type 0 = λ v. LeadsTo rules calls c.loop.needed trace v in
    way_ends c.args.module.now c.args.known.now c.args.callers.now c.requires c.args.place c.args.fact.now c.loop.body c.loop.needed
    c.loop.chain.items c.loop.invariant trace c.add_causes.new.chain.items
    (c.in_ok-add_causes-in-Some.ensures
    ∙ ap (λ (v : List Rule). c.loop.chain.items ++ causes_at c.loop.body v) c.deref.ensures.value) (subst L c.in-None-by.is (subst W c.in-Some.is c.in_ok-trace.ensures))
