use Rattle.std.proofs.Common.{subst}
use Rattle.shader_uniformity.specs.declared.facts.BodyLocation.{BodyLocation}
use Rattle.report_findings.specs.Calls.{PassesNoOther, body_at}
use Rattle.report_findings.proofs.CallLemmas.{next_too}
use Rattle.report_findings.proofs.call_help.all_pass_no_other.Goals as goal

pub loop-index-preserved : goal.loop-index-preserved
loop-index-preserved c =
    let called = c.args.called.now in
    let P : BodyLocation → Type 0 = λ v. PassesNoOther c.args.module.now c.args.known.now called.violation called.call v in
    next_too (λ i. P (body_at c.args.bodies i)) c.loop-index.index c.loop-index.invariant
    (subst P c.at.ensures (c.in_ok-passes_no_other.ensures c.if-not-branch.false))
