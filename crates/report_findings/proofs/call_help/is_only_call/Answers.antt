use Rattle.std.proofs.Common.{◌≡◌, ℕ, ◌<◌, Bool, true, List, length, subst}
use Rattle.std.proofs.lemmas.Result.{IfOk-weaker}
use Rattle.shader_uniformity.specs.Marks.{Marked}
use Rattle.shader_uniformity.specs.declared.facts.BodyLocation.TheVariants as body
use Rattle.shader_uniformity.specs.declared.facts.Fact.TheVariants.{Always}
use Rattle.shader_uniformity.specs.declared.facts.Rule.{Rule}
use Rattle.report_findings.proofs.CallLemmas.{only}
use Rattle.report_findings.specs.Calls.{IsOnlyCall, PassesNoOther}
use Rattle.report_findings.proofs.call_help.is_only_call.Goals as goal

pub returns : goal.returns
returns c =
    let m = c.args.module.now in
    let known = c.args.known.now in
    let violation = c.args.called.now.violation in
    let call = c.args.called.now.call in
    let R : List Rule → Type 0 = λ v. Marked v Always violation.need.violated_by → ⊥ in
    let P : Bool → Type 0 =
    λ found. found ≡ true → (i : ℕ) → i < length m.entry_points → PassesNoOther m known violation call (body.EntryPoint i) in
    let Q : Bool → Type 0 = λ found. found ≡ true → IsOnlyCall m known violation call in
    IfOk-weaker c.all_pass_no_other-2.result P Q
    (λ found pass held. only m known violation call (subst R c.requires.rules (c.in_ok-leads.ensures c.if-branch.false))
    (c.in_ok-functions.ensures c.if-not-functions.false) (pass held))
    c.all_pass_no_other-2.ensures
