-- The bytes of a struct, cut into pieces.
use Rattle.std.specs.Prelude.{◌≡◌, ◌≤◌, ◌+◌, ◌∷◌, [], ℕ, List, Some, None, filter, is_some, nat_lt, if◌then◌else◌}
use Rattle.layout_drawing.specs.declared.pieces.Piece.{Piece}
use Rattle.layout_drawing.specs.declared.pieces.Slot.{Slot}

abbrev pub piece_of : Slot → Piece
piece_of slot = record { slot = Some slot; start = slot.offset; end = slot.offset + slot.size }

-- the bytes between two places, which belong to no member, if there are any
abbrev pub hole : ℕ → ℕ → List Piece
hole start end = if nat_lt start end then record { slot = None; start = start; end = end } ∷ [] else []

-- from a place on, each member begins where the one before ends or later, and ends within the span
abbrev pub Fits : ℕ → ℕ → List Slot → Type 0
Fits span at [] = at ≤ span
Fits span at (slot ∷ slots) = (at ≤ slot.offset) × (slot.offset + slot.size ≤ span) × Fits span (slot.offset + slot.size) slots

-- the pieces follow one another without a gap, from a place up to the span
abbrev pub AreTiles : ℕ → ℕ → List Piece → Type 0
AreTiles span at [] = at ≡ span
AreTiles span at (piece ∷ pieces) = (piece.start ≡ at) × (at ≤ piece.end) × AreTiles span piece.end pieces

-- the pieces without the holes
abbrev pub member_pieces : List Piece → List Piece
member_pieces pieces = filter (λ (piece : Piece). is_some piece.slot) pieces
