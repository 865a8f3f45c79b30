use Rattle.std.proofs.Common.{◌∙◌, ◌+◌, sym, subst, ap, List, take, [], ◌++◌, ◌∷◌, rules}
use Rattle.std.proofs.lemmas.List.{take_more}
use Rattle.shader_uniformity_needs.specs.declared.needs.Violation.{Violation}
use Rattle.report_findings.specs.Collected.{AddsEach}
use Rattle.report_findings.specs.Flow.{IsFlowDiagnostic}
use Rattle.report_diagnostics.specs.declared.diagnostic.Diagnostic.{Diagnostic}
use Rattle.report_findings.proofs.CollectLemmas.{one_more}
use Rattle.report_findings.proofs.collect.add_each.Goals as goal

pub loop-violation-preserved : goal.loop-violation-preserved
loop-violation-preserved c =
    let P : List Diagnostic → Type 0 = λ v. AddsEach (IsFlowDiagnostic c.args.module.now)
    (take (c.loop-violation.violation-index + 1) c.args.violations.now) c.args.diagnostics.now.items v in
    let Q : List Violation → Type 0 = λ v. AddsEach (IsFlowDiagnostic c.args.module.now) v c.args.diagnostics.now.items
    (c.loop-violation.diagnostics.items ++ c.in_ok-diagnostic.diagnostic ∷ []) in
    record {
      added = subst P (sym c.in_ok-push.ensures.items) (subst Q
          (sym (take_more c.args.violations.now c.loop-violation.violation-index c.violation-item.result c.loop-violation-test.true
          ∙ ap (λ (x : Violation). take c.loop-violation.violation-index c.args.violations.now ++ x ∷ []) (sym c.violation-item.is)))
          (one_more (IsFlowDiagnostic c.args.module.now) (take c.loop-violation.violation-index c.args.violations.now)
          c.violation-item.result c.args.diagnostics.now.items c.loop-violation.diagnostics.items c.in_ok-diagnostic.diagnostic
          c.loop-violation.invariant.added c.in_ok-diagnostic.ensures));
      outlined = search rules;
    }
