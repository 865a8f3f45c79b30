use Rattle.std.proofs.Common.{◌≡◌}
use Rattle.report_findings.specs.Effects.{first_quiet}
use Rattle.report_findings.proofs.effects.quiet_functions.Given as goal

abbrev pub invariant-loop-index : goal.invariant-loop-index
invariant-loop-index l = l.quiet.items ≡ first_quiet l.«module» l.index
