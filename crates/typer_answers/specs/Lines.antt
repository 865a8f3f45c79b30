-- The lines of a text.
use Rattle.std.specs.Prelude.{◌==◌, if◌then◌else◌, ℕ, length, List, [], ◌∷◌}
use Rattle.std.specs.List.{slice_split}
use Rattle.typer_answers.specs.declared.lines.Lines.{Lines}

-- the list without an empty last piece
abbrev pub without_empty_last : List (List ℕ) → List (List ℕ)
without_empty_last [] = []
without_empty_last (piece ∷ []) = if length piece == 0 then [] else piece ∷ []
without_empty_last (piece ∷ next ∷ more) = piece ∷ without_empty_last (next ∷ more)

-- a line ends at byte 10, and bytes after the last byte 10 are one more line
abbrev pub lines_of : List ℕ → List (List ℕ)
lines_of text = without_empty_last (slice_split (λ b. b == 10) text)

-- the lines that remain in the iterator
abbrev pub lines_left : Lines → List (List ℕ)
lines_left it = lines_of it.rest.now
