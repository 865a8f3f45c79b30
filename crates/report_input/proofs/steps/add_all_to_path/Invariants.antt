use Rattle.std.proofs.Common.{◌≡◌, ◌++◌, drop, flat_map, string_bytes}
use Rattle.report_input.specs.Steps.{step_in_path}
use Rattle.report_input.proofs.steps.add_all_to_path.Given as goal

abbrev pub invariant-loop-step : goal.invariant-loop-step
invariant-loop-step l =
    string_bytes l.text ++ flat_map step_in_path (drop l.step-index l.steps)
    ≡ string_bytes l.fn.text ++ flat_map step_in_path l.steps
