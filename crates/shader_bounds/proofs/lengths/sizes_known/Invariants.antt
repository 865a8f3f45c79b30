use Rattle.std.proofs.Common.{◌↔◌}
use Rattle.shader_bounds.specs.Lengths.{AreSizesKnown}
use Rattle.shader_bounds.proofs.KnownLemmas.{AreKnown}
use Rattle.shader_bounds.proofs.lengths.sizes_known.Given as goal

abbrev pub invariant-loop-ty : goal.invariant-loop-ty
invariant-loop-ty l =
    (goal.iterator-loop-ty).can_next l.ty-iterator
    × (goal.iterator-loop-ty).is_finite l.ty-iterator
    × (AreKnown l.module l.ty-iterator ↔ AreSizesKnown l.module)
