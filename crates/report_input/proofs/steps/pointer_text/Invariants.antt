use Rattle.std.proofs.Common.{◌≡◌, ◌++◌, drop, flat_map, string_bytes}
use Rattle.report_input.specs.Steps.{step_in_pointer}
use Rattle.report_input.proofs.steps.pointer_text.Given as goal

abbrev pub invariant-loop-step : goal.invariant-loop-step
invariant-loop-step l =
    string_bytes l.text ++ flat_map step_in_pointer (drop l.step-index l.steps) ≡ flat_map step_in_pointer l.steps
