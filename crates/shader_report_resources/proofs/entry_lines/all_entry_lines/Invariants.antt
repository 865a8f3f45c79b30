use Rattle.std.proofs.Common.{◌≡◌, ◌++◌, drop, flat_map}
use Rattle.std.specs.List.{enumerate_from}
use Rattle.std.specs.String.{string_bytes}
use Rattle.json.specs.Value.{value_view}
use Rattle.shader_report_resources.specs.EntryLines.{all_entry_lines, entry_lines}
use Rattle.shader_report_resources.proofs.entry_lines.all_entry_lines.Given as goal

abbrev pub invariant-loop-entry : goal.invariant-loop-entry
invariant-loop-entry l =
    (l.place ≡ l.entry-index)
    × (string_bytes l.text ++ flat_map (entry_lines (value_view l.root) l.«module») (enumerate_from l.place (drop l.entry-index l.entries))
    ≡ all_entry_lines (value_view l.root) l.«module» l.entries)
