use Rattle.std.proofs.Common.{◌≡◌, nat_le}
use Rattle.shader_resolve.specs.ModuleTests.{every, every_entry}
use Rattle.shader_resolve.specs.Nesting.{depth}
use Rattle.shader_resolve.proofs.well_formed.nesting.functions_nest_within.Given as goal

abbrev pub invariant-loop-function : goal.invariant-loop-function
invariant-loop-function l =
    (goal.iterator-loop-function).can_next l.function-iterator
    × (goal.iterator-loop-function).is_finite l.function-iterator
    × (every_entry (λ position function. nat_le (depth function.body) l.levels) l.function-iterator
    ≡ every (λ position function. nat_le (depth function.body) l.levels) l.«module».functions)
