use Rattle.std.proofs.Common.{flat_map}
use Rattle.json.specs.Value.{value_view}
use Rattle.shader_report_resources.specs.Tables.{override_tokens, overrides_tokens}
use Rattle.report_json.specs.Tokens.{Leads}
use Rattle.shader_report_resources.proofs.tables.write_overrides.Given as goal

abbrev pub invariant-loop-handle : goal.invariant-loop-handle
invariant-loop-handle l =
    (goal.iterator-loop-handle).can_next l.handle-iterator
    × (goal.iterator-loop-handle).is_finite l.handle-iterator
    × Leads l.initial.writer l.writer (flat_map (override_tokens (value_view l.root) l.«module») l.handle-iterator)
    (overrides_tokens (value_view l.root) l.«module»)
