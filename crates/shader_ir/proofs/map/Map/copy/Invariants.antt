use Rattle.std.proofs.Common.{◌≡◌, ◌++◌}
use Rattle.shader_ir.proofs.map.Map.copy.Given as goal

-- the entries copied so far and those left are all entries
abbrev pub invariant-loop-key : goal.invariant-loop-key
invariant-loop-key g l =
    (goal.iterator-loop-key g).can_next l.key-iterator
    × (goal.iterator-loop-key g).is_finite l.key-iterator
    × (l.entries.entries ++ l.key-iterator ≡ l.self)
