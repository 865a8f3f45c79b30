use Rattle.std.proofs.Common.{◌∙◌, subst, List}
use Rattle.std.specs.List.{All}
use Rattle.std.proofs.lemmas.List.{take_all}
use Rattle.std.proofs.lemmas.List.Elements.{All-more}
use Rattle.shader_uniformity_needs.specs.declared.needs.Pass.{Pass}
use Rattle.report_findings.specs.Calls.{IsExcused}
use Rattle.report_findings.proofs.call_help.passes_no_other.Goals as goal

pub loop-pass-preserved : goal.loop-pass-preserved
loop-pass-preserved c =
    let called = c.args.called.now in
    let P : Pass → Type 0 = λ v. IsExcused c.args.module.now c.args.known.now called.violation called.call c.args.caller v in
    All-more P c.deref-pass-items.result.now c.loop-pass.pass-index c.pass-item.result c.loop-pass-test.true c.loop-pass.invariant
    (subst P c.pass-item.is (c.in_ok-is_excused.ensures c.if-not-branch.false))

pub returns : goal.returns
returns c =
    let called = c.args.called.now in
    let Q : List Pass → Type 0 =
    λ v. All (IsExcused c.args.module.now c.args.known.now called.violation called.call c.args.caller) v in
    let whole = take_all c.loop-pass.pass-index c.deref-pass-items.result.now c.loop-pass-test.false in
    λ _. subst Q (whole ∙ (c.deref-pass-items.ensures.value ∙ c.in_ok-demands.ensures.passes)) c.loop-pass.invariant
