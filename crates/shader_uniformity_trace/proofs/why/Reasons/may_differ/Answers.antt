use Rattle.std.proofs.Common.{◌↔◌, ◌∙◌, ap, sym, subst, Bool, IsTrue, is_some}
use Rattle.shader_analysis_spec.specs.Program.{Module}
use Rattle.shader_uniformity_trace.specs.Chains.{HasOriginAt}
use Rattle.shader_uniformity_trace.proofs.WalkLemmas.{has_reason}
use Rattle.shader_uniformity_trace.proofs.why.Reasons.may_differ.Goals as goal

pub returns-clause-origin : goal.returns-clause-origin
returns-clause-origin c =
    let of_module : Module → Type 0 = λ v. IsTrue c.is_some.result ↔ HasOriginAt v c.args.link.now in
    let of_result : Bool → Type 0 = λ v. IsTrue v ↔ HasOriginAt c.self.inside.module.now c.args.link.now in
    subst of_module c.self.view_is (subst of_result (sym (c.is_some.ensures ∙ ap is_some c.reason_of.ensures))
    (has_reason c.self.inside.module.now c.self.inside.table c.self.invariant.1 c.args.link.now))
