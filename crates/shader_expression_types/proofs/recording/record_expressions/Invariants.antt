use Rattle.std.proofs.Common.{◌≡◌, ℕ, ◌<◌, All, length, replicate}
use Rattle.shader_analysis_spec.specs.Derivable.{function_context}
use Rattle.shader_expression_types.proofs.ListLemmas.{IsLeft}
use Rattle.shader_expression_types.specs.Checked.{IsSound}
use Rattle.shader_expression_types.specs.Typed.{AreOfTheFirst}
use Rattle.shader_ir.specs.Key.{FitsTypes}
use Rattle.shader_passes.specs.Counting.{counts_in}
use Rattle.shader_passes.specs.Facts.{facts_after}
use Rattle.shader_passes.specs.Records.{facts_in, types_in}
use Rattle.shader_passes.specs.Results.{computed_facts}
use Rattle.shader_expression_types.proofs.recording.record_expressions.Given as goal

abbrev pub invariant-loop-handle : goal.invariant-loop-handle
invariant-loop-handle l =
    (goal.iterator-loop-handle).can_next l.handle-iterator
    × (goal.iterator-loop-handle).is_finite l.handle-iterator
    × IsLeft l.function.expressions (length l.records.items) l.handle-iterator
    × (length l.records.items ≡ length l.roots.items)
    × (facts_after l.«module» l.infos l.function (facts_in l.records.items l.roots.items) l.handle-iterator
    ≡ computed_facts l.«module» l.infos l.function)
    × (counts_in l.records.items ≡ replicate (length l.records.items) 0)
    × AreOfTheFirst (function_context l.«module» l.function) l.function.expressions (types_in l.records.items)
    × All (FitsTypes l.«module».types) (types_in l.records.items)
    × ((e : ℕ) → e < length l.records.items → IsSound l.«module» l.infos l.function l.capabilities e)
