use Rattle.std.proofs.Common.{◌≡◌, ◌++◌, drop, flat_map, string_bytes}
use Rattle.report_places.specs.Pointers.{step_in}
use Rattle.report_places.proofs.pointers.add_steps.Given as goal

abbrev pub invariant-loop-step : goal.invariant-loop-step
invariant-loop-step l =
    string_bytes l.text ++ flat_map (step_in l.notation) (drop l.step-index l.way)
    ≡ string_bytes l.fn.text ++ flat_map (step_in l.notation) l.way
