use Rattle.shader_uniformity.proofs.Depths.{cases_fall}
use Rattle.shader_uniformity.proofs.leaves.+escapes.Goals as goal

pub statement_escapes-cases_escape-requires : goal.statement_escapes-cases_escape-requires
statement_escapes-cases_escape-requires t c = (
  cases_fall c.args.statement.now c.in-Switch.selector c.in-Switch.cases c.deref.result.now t c.in-Switch.is
      c.deref.ensures.value c.decreases,
  tt,
)
