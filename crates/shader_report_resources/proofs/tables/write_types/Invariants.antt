use Rattle.std.proofs.Common.{flat_map}
use Rattle.shader_report_resources.specs.Tables.{type_tokens, types_tokens}
use Rattle.report_json.specs.Tokens.{Leads}
use Rattle.shader_report_resources.proofs.tables.write_types.Given as goal

abbrev pub invariant-loop-handle : goal.invariant-loop-handle
invariant-loop-handle l =
    (goal.iterator-loop-handle).can_next l.handle-iterator
    × (goal.iterator-loop-handle).is_finite l.handle-iterator
    × Leads l.initial.writer l.writer (flat_map (type_tokens l.«module» l.layouter) l.handle-iterator) (types_tokens l.«module» l.layouter)
