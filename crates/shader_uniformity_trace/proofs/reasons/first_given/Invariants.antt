use Rattle.std.proofs.Common.{◌≡◌, drop}
use Rattle.shader_passes.specs.StatementLists.{steps_of}
use Rattle.shader_uniformity_trace.specs.Reasons.{first_given}
use Rattle.shader_uniformity_trace.proofs.reasons.first_given.Given as goal

abbrev pub invariant-loop-statement : goal.invariant-loop-statement
invariant-loop-statement l =
    first_given l.location l.traces l.reasons (steps_of (drop l.statement-index l.all))
    ≡ first_given l.location l.traces l.reasons (steps_of l.all)
