use Rattle.report_expressions.specs.Parts.{AreParts}
use Rattle.report_expressions.proofs.forms.add_swizzle.Given as goal

abbrev pub invariant-loop-component : goal.invariant-loop-component
invariant-loop-component l = AreParts l.source l.of l.parts.items
