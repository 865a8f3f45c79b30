use Rattle.std.proofs.Common.{◌≡◌, ◌++◌, length, min}
use Rattle.std.specs.List.{filter}
use Rattle.shader_arena.specs.Positions.{most_items, positions_between}
use Rattle.shader_info.specs.Recorded.{is_used_for}
use Rattle.shader_info.proofs.info.FunctionInfo.globals_used.Given as goal

-- the globals found, joined with those that are left, are all
abbrev pub invariant-loop-global : goal.invariant-loop-global
invariant-loop-global l =
    (goal.iterator-loop-global).can_next l.global-iterator
    × (goal.iterator-loop-global).is_finite l.global-iterator
    × (l.globals.items ++ filter (is_used_for l.self l.uses) l.global-iterator
    ≡ filter (is_used_for l.self l.uses) (positions_between 0 (min (length l.self.global_uses) most_items)))
