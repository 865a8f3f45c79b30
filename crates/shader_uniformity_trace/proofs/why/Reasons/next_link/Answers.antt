use Rattle.std.proofs.Common.{sym, subst, Option}
use Rattle.shader_analysis_spec.specs.Program.{Module}
use Rattle.shader_uniformity_trace.specs.declared.link.Link.{Link}
use Rattle.shader_uniformity_trace.specs.Chains.{HasOriginAt}
use Rattle.shader_uniformity_trace.specs.Trace.{LeadsTo}
use Rattle.shader_uniformity_trace.proofs.WalkLemmas.{leads_to}
use Rattle.shader_uniformity_trace.proofs.why.Reasons.next_link.Goals as goal

pub returns : goal.returns
returns c =
    let of_module : Module → Type 0 = λ v. LeadsTo v c.args.link.now c.next_of.result in
    let of_next : Option Link → Type 0 = λ v. LeadsTo c.self.inside.module.now c.args.link.now v in
    let has : Module → Type 0 = λ v. HasOriginAt v c.args.link.now in
    subst of_module c.self.view_is (subst of_next (sym c.next_of.ensures) (leads_to c.self.inside.module.now c.self.inside.table
    c.self.invariant.1 c.args.link.now (subst has (sym c.self.view_is) c.requires)))
