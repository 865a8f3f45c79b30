use Rattle.std.proofs.Common.{◌≡◌}
use Rattle.shader_arena.specs.Positions.{items_of}
use Rattle.shader_report_bounds.specs.Sizes.{first_among, first_unsized}
use Rattle.shader_report_bounds.proofs.sizes.find_unsized.Given as goal

abbrev pub invariant-loop-ty : goal.invariant-loop-ty
invariant-loop-ty l =
    (goal.iterator-loop-ty).can_next l.ty-iterator
    × (goal.iterator-loop-ty).is_finite l.ty-iterator
    × (first_among l.module (items_of l.ty-iterator) ≡ first_unsized l.module)
