use Rattle.std.proofs.Common.{◌≡◌, ◌++◌, map}
use Rattle.json.specs.Value.{value_view}
use Rattle.shader_report_resources.specs.DeclaredLines.{override_row, override_rows}
use Rattle.shader_report_resources.proofs.declared_lines.override_rows.Given as goal

abbrev pub invariant-loop-handle : goal.invariant-loop-handle
invariant-loop-handle l =
    (goal.iterator-loop-handle).can_next l.handle-iterator
    × (goal.iterator-loop-handle).is_finite l.handle-iterator
    × (l.rows.items ++ map (override_row (value_view l.root) l.«module») l.handle-iterator
    ≡ override_rows (value_view l.root) l.«module»)
