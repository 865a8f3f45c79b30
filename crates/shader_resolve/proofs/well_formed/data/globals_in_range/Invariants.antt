use Rattle.std.proofs.Common.{◌≡◌}
use Rattle.shader_resolve.specs.ModuleTests.{every, every_entry, global_in_range}
use Rattle.shader_resolve.proofs.well_formed.data.globals_in_range.Given as goal

abbrev pub invariant-loop-variable : goal.invariant-loop-variable
invariant-loop-variable l =
    (goal.iterator-loop-variable).can_next l.variable-iterator
    × (goal.iterator-loop-variable).is_finite l.variable-iterator
    × (every_entry (λ position variable. global_in_range l.«module» variable) l.variable-iterator
    ≡ every (λ position variable. global_in_range l.«module» variable) l.«module».global_variables)
