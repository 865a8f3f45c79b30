use Rattle.std.proofs.Common.{◌≡◌, length}
use Rattle.shader_expression_types.proofs.ListLemmas.{IsLeft}
use Rattle.shader_analysis.specs.Analyzed.{TypesComputed}
use Rattle.shader_analysis.proofs.valid.analyze.add_types.Given as goal

abbrev pub invariant-loop-handle : goal.invariant-loop-handle
invariant-loop-handle l =
    (goal.iterator-loop-handle).can_next l.handle-iterator
    × (goal.iterator-loop-handle).is_finite l.handle-iterator
    × IsLeft l.«module».global_expressions (length l.info.global_expressions) l.handle-iterator
    × (l.info ≡ record l.fn.info { global_expressions = l.info.global_expressions })
    × TypesComputed l.«module» l.info.global_expressions
