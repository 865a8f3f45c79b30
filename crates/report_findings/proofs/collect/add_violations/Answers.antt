use Rattle.std.proofs.Common.{List, subst}
use Rattle.shader_uniformity_needs.specs.declared.needs.Violation.{Violation}
use Rattle.report_findings.specs.Collected.{AddsEach}
use Rattle.report_findings.specs.Flow.{IsFlowDiagnostic}
use Rattle.report_findings.proofs.collect.add_violations.Goals as goal

pub returns : goal.returns
returns c =
    let P : List Violation → Type 0 = λ v. AddsEach (IsFlowDiagnostic c.args.module.now) v c.args.diagnostics.now.items
    c.add_each.new.diagnostics.items in
    record {
      violations = c.in_ok-violations.violations.items;
      violated = c.in_ok-violations.ensures;
      each = subst P c.as_slice.ensures.value c.in_ok-add_each.ensures;
    }
