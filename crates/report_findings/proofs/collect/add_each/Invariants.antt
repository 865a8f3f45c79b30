use Rattle.std.proofs.Common.{take}
use Rattle.report_findings.specs.Bodies.{IsOutlined}
use Rattle.report_findings.specs.Collected.{AddsEach}
use Rattle.report_findings.specs.Flow.{IsFlowDiagnostic}
use Rattle.report_findings.proofs.collect.add_each.Given as goal

abbrev pub invariant-loop-violation : goal.invariant-loop-violation
invariant-loop-violation l = record {
  added : AddsEach (IsFlowDiagnostic l.«module») (take l.violation-index l.violations) l.fn.diagnostics.items l.diagnostics.items;
  outlined : IsOutlined l.«module» l.body;
}
