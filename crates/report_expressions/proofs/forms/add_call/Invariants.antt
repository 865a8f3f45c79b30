use Rattle.report_expressions.specs.Parts.{AreParts}
use Rattle.report_expressions.proofs.forms.add_call.Given as goal

abbrev pub invariant-loop-argument : goal.invariant-loop-argument
invariant-loop-argument l = AreParts l.source l.of l.parts.items
