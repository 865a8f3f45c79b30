-- The first elements of lists of positions.
use Rattle.std.proofs.Common.{List, refl, ◌≡◌, ℕ, suc, ◌+◌, ◌-◌, ◌<◌, ◌≤◌, [], ◌∷◌, arith, ap}
use Rattle.std.specs.List.{enumerate_from}
use Rattle.shader_arena.specs.Positions.{positions_from, positions_between, items_of}

-- a range that is not empty begins at its start
pub positions_between-cons : (start end : ℕ) → start < end → positions_between start end ≡ start ∷ positions_between (start + 1) end
positions_between-cons start end lt =
    let split : end - start ≡ suc (end - (start + 1)) = omega arith in ap (positions_from start) split

-- an empty range has no positions
pub positions_between-nil : (start end : ℕ) → end ≤ start → positions_between start end ≡ []
positions_between-nil start end le =
    let none : end - start ≡ 0 = omega arith in ap (positions_from start) none

-- the items of a list with positions are its items
pub items_of-enumerate_from : {T : Type 0} (first : ℕ) (items : List T) → items_of (enumerate_from first items) ≡ items
items_of-enumerate_from first [] = refl
items_of-enumerate_from first (item ∷ items) = ap (λ rest. item ∷ rest) (items_of-enumerate_from (first + 1) items)

-- the entries of an arena, in order, are the items of its iterator
pub ruleset entries = (items_of-enumerate_from)
