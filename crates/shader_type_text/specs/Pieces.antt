-- The pieces of a text between separators.
use Rattle.std.specs.Prelude.{◌==◌, ℕ, List, [], Option, Some, None}
use Rattle.std.specs.List.{slice_split}
use Rattle.std.specs.Borrow.{Bor}

-- the pieces of the rest, if there is one
abbrev pub pieces_of : ℕ → Option (Bor (List ℕ)) → List (List ℕ)
pieces_of separator None = []
pieces_of separator (Some rest) = slice_split (λ b. b == separator) rest.now
