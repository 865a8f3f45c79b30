use Rattle.std.proofs.Common.{◌≡◌, drop, flat_map}
use Rattle.std.specs.List.{enumerate_from}
use Rattle.json.specs.Value.{value_view}
use Rattle.shader_report_resources.specs.Entries.{entries_tokens, entry_tokens}
use Rattle.report_json.specs.Tokens.{Leads}
use Rattle.shader_report_resources.proofs.entries.write_entries.Given as goal

abbrev pub invariant-loop-of : goal.invariant-loop-of
invariant-loop-of l =
    (l.place ≡ l.of-index)
    × Leads l.initial.writer l.writer
    (flat_map (entry_tokens (value_view l.root) l.«module») (enumerate_from l.place (drop l.of-index l.uses)))
    (entries_tokens (value_view l.root) l.«module» l.uses)
