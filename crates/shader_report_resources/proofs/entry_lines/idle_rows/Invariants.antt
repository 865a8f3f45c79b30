use Rattle.std.proofs.Common.{◌≡◌, ◌++◌, flat_map}
use Rattle.json.specs.Value.{value_view}
use Rattle.shader_report_resources.specs.EntryLines.{idle_row, idle_rows}
use Rattle.shader_report_resources.proofs.entry_lines.idle_rows.Given as goal

abbrev pub invariant-loop-handle : goal.invariant-loop-handle
invariant-loop-handle l =
    (goal.iterator-loop-handle).can_next l.handle-iterator
    × (goal.iterator-loop-handle).is_finite l.handle-iterator
    × (l.rows.items ++ flat_map (idle_row (value_view l.root) l.«module» l.uses) l.handle-iterator
    ≡ idle_rows (value_view l.root) l.«module» l.uses)
