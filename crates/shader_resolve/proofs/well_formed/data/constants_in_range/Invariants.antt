use Rattle.std.proofs.Common.{◌≡◌}
use Rattle.shader_resolve.specs.ModuleTests.{every, every_entry, constant_in_range}
use Rattle.shader_resolve.proofs.well_formed.data.constants_in_range.Given as goal

abbrev pub invariant-loop-constant : goal.invariant-loop-constant
invariant-loop-constant l =
    (goal.iterator-loop-constant).can_next l.constant-iterator
    × (goal.iterator-loop-constant).is_finite l.constant-iterator
    × (every_entry (λ position constant. constant_in_range l.«module» constant) l.constant-iterator
    ≡ every (λ position constant. constant_in_range l.«module» constant) l.«module».constants)
