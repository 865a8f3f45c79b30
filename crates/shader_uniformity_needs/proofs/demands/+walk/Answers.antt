use Rattle.shader_uniformity.proofs.Depths.{cases_fall}
use Rattle.shader_uniformity_needs.proofs.demands.+walk.Goals as goal

pub add_statement-add_cases-requires : goal.add_statement-add_cases-requires
add_statement-add_cases-requires t c = (
  cases_fall c.args.statement.now c.in-Switch.selector c.in-Switch.cases c.deref.result.now t c.in-Switch.is
      c.deref.ensures.value c.decreases,
  tt,
)
