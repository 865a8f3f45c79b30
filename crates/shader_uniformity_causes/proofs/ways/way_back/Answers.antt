use Rattle.std.proofs.Common.{subst, Option}
use Rattle.std.specs.Global.{Vec}
use Rattle.shader_uniformity.specs.Traces.{IsTraceOf}
use Rattle.shader_uniformity.specs.declared.facts.Fact.TheVariants.{Always}
use Rattle.shader_uniformity.specs.declared.facts.Rule.{Rule}
use Rattle.shader_uniformity_causes.proofs.PassLemmas.{way_either}
use Rattle.shader_uniformity_causes.proofs.ways.way_back.Goals as goal

pub returns-in_ok-way-in-None : goal.returns-in_ok-way-in-None
returns-in_ok-way-in-None c =
    let P : Option (Vec Rule) → Type 0 = λ v. IsTraceOf c.args.rules.now Always c.args.fact.now v in
    way_either c.args.rules.now c.args.calls.now c.args.fact.now c.in_ok-way-in-None.way
    (subst P c.in-None.is c.in_ok-trace.ensures.found) c.in_ok-way-in-None.ensures
