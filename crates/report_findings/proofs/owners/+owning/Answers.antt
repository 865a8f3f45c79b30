use Rattle.shader_uniformity.proofs.Depths.{cases_fall}
use Rattle.report_findings.proofs.owners.+owning.Goals as goal

pub in_statement-in_cases-requires : goal.in_statement-in_cases-requires
in_statement-in_cases-requires t c = (
  cases_fall c.args.statement.now c.in-Switch.selector c.in-Switch.cases c.deref.result.now t c.in-Switch.is
      c.deref.ensures.value c.decreases,
  tt,
)
