use Rattle.shader_uniformity.proofs.Depths.{cases_fall}
use Rattle.report_findings.proofs.effects.+affecting.Goals as goal

pub is_quiet_statement-are_quiet_cases-requires : goal.is_quiet_statement-are_quiet_cases-requires
is_quiet_statement-are_quiet_cases-requires t c = (
  cases_fall c.args.statement.now c.in-Switch.selector c.in-Switch.cases c.as_slice.result.now t c.in-Switch.is
      c.as_slice.ensures.value c.decreases,
  tt,
)
