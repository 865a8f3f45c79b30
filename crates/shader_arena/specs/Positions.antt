-- Positions in arenas: ranges and sets of them as lists.
use Rattle.std.specs.Prelude.{ℕ, zero, suc, ◌+◌, ◌-◌, nat_lt, Bool, false, List, [], ◌∷◌, Option, Some, None, if◌then◌else◌, slice_index_or}

-- the most items that an arena can hold: every position and the length fit in 32 bits
abbrev pub most_items : ℕ
most_items = 4294967295

-- n consecutive positions from a first one on
abbrev pub positions_from : ℕ → ℕ → List ℕ
positions_from first zero = []
positions_from first (suc n) = first ∷ positions_from (first + 1) n

-- the positions from start up to, but not including, end
abbrev pub positions_between : ℕ → ℕ → List ℕ
positions_between start end = positions_from start (end - start)

-- the first and the last of those positions, if any
abbrev pub ends_between : ℕ → ℕ → Option (ℕ × ℕ)
ends_between start end = if nat_lt start end then Some (start, end - 1) else None

-- whether the flag of a position is set
abbrev pub is_member : List Bool → ℕ → Bool
is_member flags position = slice_index_or flags position false

-- the positions of the flags that are set, if the first flag has the given position
abbrev pub members_from : ℕ → List Bool → List ℕ
members_from position [] = []
members_from position (flag ∷ flags) = if flag then position ∷ members_from (position + 1) flags else members_from (position + 1) flags

-- the positions of the flags that are set, ascending
abbrev pub members : List Bool → List ℕ
members flags = members_from 0 flags

-- the items of entries, without their positions
abbrev pub items_of : {T : Type 0} → List (ℕ × T) → List T
items_of [] = []
items_of (entry ∷ entries) = entry.1 ∷ items_of entries
