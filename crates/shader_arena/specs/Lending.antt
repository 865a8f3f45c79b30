-- The final state of an arena after a `&mut` to one of its items was returned.
use Rattle.std.specs.Prelude.{ℕ, List, slice_set}
use Rattle.std.specs.Borrow.{Lends, Fml, RattleType, MutBor}
use Rattle.shader_arena.specs.contracts.arena.Arena.{the_row}

-- once the borrow ends, the position has the last item that was written through it
abbrev pub lends_item : (T M : RattleType) → MutBor (List T.Denot) → ℕ → MutBor T.Denot → Fml
lends_item T M arena position item = Lends (the_row T M) T arena item (slice_set arena.now position)
