use Rattle.std.proofs.Common.{◌≡◌, ◌++◌, drop, flat_map}
use Rattle.std.specs.List.{enumerate_from}
use Rattle.json.specs.Value.{value_view}
use Rattle.shader_report_resources.specs.ValueLines.{input_rows, inputs_rows}
use Rattle.shader_report_resources.proofs.value_lines.add_inputs.Given as goal

abbrev pub invariant-loop-argument : goal.invariant-loop-argument
invariant-loop-argument l =
    (l.index ≡ l.argument-index)
    × (l.rows.items
    ++ flat_map (input_rows (value_view l.root) l.«module» l.place) (enumerate_from l.index (drop l.argument-index l.arguments))
    ≡ l.initial.rows.items ++ inputs_rows (value_view l.root) l.«module» l.place l.arguments)
