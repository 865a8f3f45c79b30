use Rattle.shader_analysis_spec.proofs.TypeLemmas.{severities_are_unique}
use Rattle.shader_ir.specs.declared.module.Severity.TheVariants as severity
use Rattle.shader_analysis.proofs.valid.analyzer.passes.checks_flow.Goals as goal

pub returns-in_default : goal.returns-in_default
returns-in_default c = record {
  on = λ h. absurd (cc);
  off = λ is h. c.in_default.not-Error (severities_are_unique c.args.«module».now.diagnostic_filters
      c.args.function.now.diagnostic_filter_leaf
      c.derivative_severity.result severity.Error c.derivative_severity.ensures h.1);
}
