-- Additions to a set.
use Rattle.std.specs.Prelude.{◌⊎◌, ℕ, Bool, List, IsTrue}
use Rattle.shader_arena.specs.Positions.{is_member}

-- the set contains the position
abbrev pub IsIn : List Bool → ℕ → Type 0
IsIn flags position = IsTrue (is_member flags position)

-- the new set contains exactly the old positions and the wanted ones
pub record Adds (Before After Wanted : ℕ → Type 0) : Type 0 where
  pub to : (position : ℕ) → After position → Before position ⊎ Wanted position
  pub retained : (position : ℕ) → Before position → After position
  pub added : (position : ℕ) → Wanted position → After position
